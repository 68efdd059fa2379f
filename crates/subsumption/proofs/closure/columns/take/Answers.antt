use native.Mathlib.Omega.{arith}
use Rattle.subsumption.proofs.Columns.{takes}
use Rattle.subsumption.proofs.closure.columns.take.Goals as goal

pub returns : goal.returns
returns c = takes _ _ _ _ _ _ _ _ _ _ _ (omega arith) c.absorb-a.ensures c.absorb-b.ensures c.absorb-c.ensures
