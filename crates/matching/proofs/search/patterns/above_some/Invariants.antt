use Prim.Native.Nat.{◌-◌}
use Rattle.matching.proofs.SearchLaws.Walks.{AboveTo}
use Rattle.matching.proofs.search.patterns.above_some.Given as goal

abbrev pub invariant-loop-q : goal.invariant-loop-q
invariant-loop-q l = AboveTo l.sets l.problem l.choice l.q l.sum

abbrev pub decreases-loop-q : goal.decreases-loop-q
decreases-loop-q l = 64 - l.q
