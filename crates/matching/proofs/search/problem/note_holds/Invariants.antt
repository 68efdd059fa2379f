use Prim.Native.Nat.{◌≤◌}
use Rattle.matching.specs.Inner.Search.Making.{HintsNoted}
use Rattle.matching.proofs.search.problem.note_holds.Given as goal

abbrev pub invariant-loop-m : goal.invariant-loop-m
invariant-loop-m l = (l.m ≤ 32) × HintsNoted l.initial.problem l.problem
