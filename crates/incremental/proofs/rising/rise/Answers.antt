use Rattle.incremental.proofs.RisingLaws.{risen-next}
use Rattle.incremental.proofs.rising.rise.Goals as goal

pub loop-j-preserved : goal.loop-j-preserved
loop-j-preserved c = risen-next _ _ _ _ _ c.loop-j.invariant c.rise_column-new.ensures
