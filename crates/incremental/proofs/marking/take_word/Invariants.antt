use Rattle.incremental.proofs.MarkingLaws.{Taking}
use Rattle.incremental.proofs.marking.take_word.Given as goal

abbrev pub invariant-loop-rest : goal.invariant-loop-rest
invariant-loop-rest l = Taking l.base l.x l.k l.add l.initial.square l.rest l.square l.changed

abbrev pub decreases-loop-rest : goal.decreases-loop-rest
decreases-loop-rest l = l.rest
