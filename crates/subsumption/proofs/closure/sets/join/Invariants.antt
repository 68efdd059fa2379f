use Rattle.subsumption.proofs.SetLaws.{Joining}
use Rattle.subsumption.specs.Inner.Columns.{InThree}
use Rattle.subsumption.proofs.closure.sets.join.Given as goal

abbrev pub invariant-loop-rest : goal.invariant-loop-rest
invariant-loop-rest l = Joining l.sets l.from l.word (InThree l.initial.first l.initial.second l.initial.third) l.rest l.first l.second l.third

abbrev pub decreases-loop-rest : goal.decreases-loop-rest
decreases-loop-rest l = l.rest
