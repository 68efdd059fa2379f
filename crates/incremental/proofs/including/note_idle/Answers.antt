use Rattle.incremental.proofs.ChainLaws.{idle-none}
use Rattle.incremental.proofs.including.note_idle.Goals as goal

pub loop-l-init : goal.loop-l-init
loop-l-init c = idle-none _ _ c.requires.idle_value
