use native.Mathlib.Omega.{arith}
use Rattle.incremental.proofs.ByteLaws.{added_more}
use Rattle.incremental.proofs.bytes.add_word.Goals as goal

pub loop-m-preserved : goal.loop-m-preserved
loop-m-preserved c = added_more _ _ _ _ _ (omega arith) (omega arith) c.loop-m.invariant
