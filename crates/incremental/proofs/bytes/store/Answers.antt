use native.Mathlib.Omega.{arith}
use Rattle.incremental.proofs.ByteLaws.{stored_next}
use Rattle.incremental.proofs.bytes.store.Goals as goal

pub loop-i-preserved : goal.loop-i-preserved
loop-i-preserved c = stored_next _ _ _ _ _ _ (omega arith) c.loop-i.invariant c.store_row.ensures
