use native.Mathlib.Omega.{arith}
use Rattle.square.proofs.SetLaws.{inserted}
use Rattle.square.proofs.sets.insert.Goals as goal

pub returns : goal.returns
returns c = inserted _ _ _ (omega arith) (omega arith)
