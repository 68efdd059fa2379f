use Prim.Native.Nat.{◌-◌}
use mathlib.Core.Bool.{false}
use Rattle.matching.specs.Inner.Search.Problem.{fit_at}
use Rattle.matching.proofs.SearchLaws.Making.Closers.{WantTo, InnerIn}
use Rattle.matching.proofs.search.problem.want_inner.Given as goal

abbrev pub invariant-loop-e : goal.invariant-loop-e
invariant-loop-e l = WantTo l.sets (fit_at false l.j) (InnerIn l.problem) l.initial.wanted l.e l.wanted

abbrev pub decreases-loop-e : goal.decreases-loop-e
decreases-loop-e l = 192 - l.e
