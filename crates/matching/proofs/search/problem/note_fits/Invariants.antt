use Rattle.matching.proofs.SearchLaws.Making.Filling.{FitsTo}
use Rattle.matching.proofs.search.problem.note_fits.Given as goal

abbrev pub invariant-loop-j : goal.invariant-loop-j
invariant-loop-j l = FitsTo l.problem l.into l.count l.right l.initial.sets l.j l.sets
