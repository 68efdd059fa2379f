use Rattle.incremental.proofs.LinkLaws.{Joining}
use Rattle.incremental.specs.Inner.Marking.{InThree}
use Rattle.incremental.proofs.links.join.Given as goal

abbrev pub invariant-loop-rest : goal.invariant-loop-rest
invariant-loop-rest l = Joining l.sets l.from l.word (InThree l.initial.first l.initial.second l.initial.third) l.rest l.first l.second l.third

abbrev pub decreases-loop-rest : goal.decreases-loop-rest
decreases-loop-rest l = l.rest
