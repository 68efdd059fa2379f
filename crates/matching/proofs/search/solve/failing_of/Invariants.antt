use mathlib.Core.Path.{◌≡◌}
use lib.ListN.{length}
use Rattle.matching.proofs.SearchLaws.Solve.{HoldTo}
use Rattle.matching.proofs.search.solve.failing_of.Given as goal

abbrev pub invariant-loop-m : goal.invariant-loop-m
invariant-loop-m l = HoldTo l.sets l.problem l.choice l.right l.m × (length l.scratch ≡ 16977)
