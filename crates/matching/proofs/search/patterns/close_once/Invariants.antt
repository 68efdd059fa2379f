use Prim.Native.Nat.{◌-◌}
use Rattle.matching.proofs.SearchLaws.Walks.{ClosingTo}
use Rattle.matching.proofs.search.patterns.close_once.Given as goal

abbrev pub invariant-loop-e : goal.invariant-loop-e
invariant-loop-e l = ClosingTo l.sets l.problem l.at l.initial.sum l.e l.sum

abbrev pub decreases-loop-e : goal.decreases-loop-e
decreases-loop-e l = 192 - l.e
