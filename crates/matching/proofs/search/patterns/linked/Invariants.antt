use Prim.Native.Nat.{◌-◌}
use Rattle.matching.proofs.SearchLaws.Walks.{LinkedTo}
use Rattle.matching.proofs.search.patterns.linked.Given as goal

abbrev pub invariant-loop-e : goal.invariant-loop-e
invariant-loop-e l = LinkedTo l.sets l.problem l.inner l.right l.j l.e l.sum

abbrev pub decreases-loop-e : goal.decreases-loop-e
decreases-loop-e l = 192 - l.e
