use Rattle.matching.proofs.SearchLaws.Making.Closers.{NextTo}
use Rattle.matching.proofs.search.problem.next_new.Given as goal

abbrev pub invariant-loop-e : goal.invariant-loop-e
invariant-loop-e l = NextTo l.sets l.problem l.count l.at l.wanted l.from l.e
