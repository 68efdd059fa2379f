use Prim.Native.Nat.{◌-◌}
use Rattle.matching.proofs.SearchLaws.Walks.{BelowTo}
use Rattle.matching.proofs.search.patterns.below_all.Given as goal

abbrev pub invariant-loop-q : goal.invariant-loop-q
invariant-loop-q l = BelowTo l.sets l.problem l.choice l.q l.common

abbrev pub decreases-loop-q : goal.decreases-loop-q
decreases-loop-q l = 64 - l.q
