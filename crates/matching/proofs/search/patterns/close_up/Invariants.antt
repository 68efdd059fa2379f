use Prim.Native.Nat.{◌+◌, ◌-◌}
use Rattle.matching.specs.Inner.Search.Patterns.{Followed}
use Rattle.matching.proofs.search.patterns.close_up.Given as goal

abbrev pub invariant-loop-more : goal.invariant-loop-more
invariant-loop-more l = Followed l.sets l.problem l.at l.initial.sum l.sum

abbrev pub decreases-loop-more : goal.decreases-loop-more
decreases-loop-more l = 55340232221128654848 - (l.sum.first + l.sum.second + l.sum.third)
