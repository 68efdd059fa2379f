use Rattle.matching.proofs.SearchLaws.Making.Closers.{ClosersTo}
use Rattle.matching.proofs.search.problem.note_closers.Given as goal

abbrev pub invariant-loop-m : goal.invariant-loop-m
invariant-loop-m l = ClosersTo l.problem l.count l.initial.sets l.m l.sets
