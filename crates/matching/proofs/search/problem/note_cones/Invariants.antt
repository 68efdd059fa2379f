use Rattle.matching.proofs.SearchLaws.Making.Cones.{ConesTo}
use Rattle.matching.proofs.search.problem.note_cones.Given as goal

abbrev pub invariant-loop-m : goal.invariant-loop-m
invariant-loop-m l = ConesTo l.problem l.count l.initial.sets l.m l.sets
