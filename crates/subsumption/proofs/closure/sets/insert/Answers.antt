use native.Mathlib.Omega.{arith}
use Rattle.subsumption.proofs.SetLaws.{inserted}
use Rattle.subsumption.proofs.closure.sets.insert.Goals as goal

pub returns : goal.returns
returns c = inserted _ _ _ (omega arith) (omega arith)
