use native.Mathlib.Omega.{arith}
use Rattle.subsumption.proofs.Columns.{mark-shifted}
use Rattle.subsumption.proofs.closure.columns.mark.Goals as goal

pub returns : goal.returns
returns c = mark-shifted _ _ _ _ (omega arith) c.absorb.ensures
