use Rattle.matching.proofs.SearchLaws.Making.Cones.{ConeTo}
use Rattle.matching.proofs.search.problem.note_cone.Given as goal

abbrev pub invariant-loop-i : goal.invariant-loop-i
invariant-loop-i l = ConeTo l.problem l.count l.m l.initial.sets l.i l.sets
