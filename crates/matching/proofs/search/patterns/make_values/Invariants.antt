use Prim.Native.Nat.{◌-◌}
use mathlib.Core.Path.{◌≡◌}
use lib.ListN.{length}
use Rattle.matching.proofs.SearchLaws.Patterns.{ValuedTo}
use Rattle.matching.proofs.search.patterns.make_values.Given as goal

abbrev pub invariant-loop-j : goal.invariant-loop-j
invariant-loop-j l = (length l.values ≡ length l.initial.values) × ValuedTo l.sets l.problem l.values l.choice l.m l.right l.j

abbrev pub decreases-loop-j : goal.decreases-loop-j
decreases-loop-j l = 192 - l.j
