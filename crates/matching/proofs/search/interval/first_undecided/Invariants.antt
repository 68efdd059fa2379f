use Prim.Native.Nat.{ℕ, ◌<◌}
use mathlib.Core.Path.{◌≡◌}
use mathlib.Core.Bool.{false}
use Rattle.matching.specs.Inner.Search.Interval.{undecided}
use Rattle.matching.proofs.search.interval.first_undecided.Given as goal

abbrev pub invariant-loop-p : goal.invariant-loop-p
invariant-loop-p l = (j : ℕ) → j < l.p → undecided l.interval.low l.interval.high j ≡ false
