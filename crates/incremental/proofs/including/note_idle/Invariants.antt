use Rattle.incremental.specs.Inner.Including.{Idle}
use Rattle.incremental.proofs.including.note_idle.Given as goal

abbrev pub invariant-loop-l : goal.invariant-loop-l
invariant-loop-l live = Idle live.inclusions live.idle
