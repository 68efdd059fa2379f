use Prim.Native.Nat.{◌-◌}
use mathlib.Core.Path.{◌≡◌}
use lib.ListN.{length}
use Rattle.matching.proofs.SearchLaws.Narrow.{Narrowing}
use Rattle.matching.proofs.search.narrow.narrow_variable.Given as goal

abbrev pub invariant-loop-q : goal.invariant-loop-q
invariant-loop-q l = (length l.scratch ≡ 16977) × Narrowing l.sets l.problem l.full l.high l.k l.q

abbrev pub decreases-loop-q : goal.decreases-loop-q
decreases-loop-q l = 64 - l.q
