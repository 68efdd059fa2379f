use Prim.Native.Nat.{◌-◌}
use Rattle.matching.specs.Inner.Search.Problem.{cone_at}
use Rattle.matching.specs.Inner.Search.Making.{WantsInner}
use Rattle.matching.proofs.SearchLaws.Making.Closers.{WantTo}
use Rattle.matching.proofs.search.problem.want_asked.Given as goal

abbrev pub invariant-loop-j : goal.invariant-loop-j
invariant-loop-j l = WantTo l.sets (cone_at l.m) (WantsInner l.sets l.problem) l.initial.wanted l.j l.wanted

abbrev pub decreases-loop-j : goal.decreases-loop-j
decreases-loop-j l = 192 - l.j
