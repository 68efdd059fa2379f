use Rattle.matching.proofs.SearchLaws.Making.Closers.{KeepTo, weight}
use Rattle.matching.proofs.search.problem.keep_all.Given as goal

abbrev pub invariant-loop-from : goal.invariant-loop-from
invariant-loop-from l = KeepTo l.problem l.count l.at l.initial.sets l.initial.wanted l.from l.sets l.wanted

abbrev pub decreases-loop-from : goal.decreases-loop-from
decreases-loop-from l = weight l.sets l.at l.from
