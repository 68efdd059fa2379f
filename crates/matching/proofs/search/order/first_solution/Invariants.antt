use mathlib.Core.Path.{◌≡◌}
use lib.ListN.{length}
use Rattle.matching.proofs.SearchLaws.Order.{Walking}
use Rattle.matching.proofs.search.order.first_solution.Given as goal

abbrev pub invariant-loop-p : goal.invariant-loop-p
invariant-loop-p l = Walking l.sets l.problem l.initial.interval.low l.initial.interval.high l.initial.store l.initial.witness l.interval.low l.interval.high l.witness l.store l.p × (length l.scratch ≡ 16977)
