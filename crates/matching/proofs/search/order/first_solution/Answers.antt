use native.Mathlib.Omega.{arith}
use mathlib.Core.Path.{◌∙◌, sym}
use Rattle.matching.proofs.SearchLaws.Interval.{open-high}
use Rattle.matching.proofs.SearchLaws.Order.{walking-witness, walking-leave, walking-take, walking-done}
use Rattle.matching.proofs.search.order.first_solution.Goals as goal

pub leave-without-requires : goal.leave-without-requires
leave-without-requires c = record { high_len = c.loop-p.invariant.0.high-long; k_bound = (omega arith, omega arith); q_value = open-high _ _ _ (sym c.is_undecided.ensures ∙ c.if-not-is_undecided.false) }

pub loop-p-preserved-then-not-has_bit : goal.loop-p-preserved-then-not-has_bit
loop-p-preserved-then-not-has_bit c = (walking-witness _ _ _ _ _ _ _ _ _ _ _ c.loop-p.invariant.0 (omega arith) (sym c.is_undecided.ensures ∙ c.if-not-is_undecided.false) _ _ c.leave-without.ensures.low_value c.leave-without.ensures.changed (sym c.has_bit.ensures ∙ c.if-not-has_bit.true), c.loop-p.invariant.1)

pub loop-p-preserved-in-Solution : goal.loop-p-preserved-in-Solution
loop-p-preserved-in-Solution c = (
  walking-leave _ _ _ _ _ _ _ _ _ _ _ c.loop-p.invariant.0 (omega arith)
      (sym c.is_undecided.ensures ∙ c.if-not-is_undecided.false) _ _ c.leave-without.ensures.low_value c.leave-without.ensures.changed _
      c.some_solution-s.ensures.room _ c.in-Solution.ensures.searched c.in-Solution.ensures.long,
  omega (arith, c.loop-p.invariant.1),
)

pub loop-p-preserved : goal.loop-p-preserved
loop-p-preserved c = (
  walking-take _ _ _ _ _ _ _ _ _ _ _ c.loop-p.invariant.0 (omega arith)
      (sym c.is_undecided.ensures ∙ c.if-not-is_undecided.false) _ _ c.leave-without.ensures.low_value c.leave-without.ensures.changed _
      c.some_solution-s.ensures.room _ _ c.in_default.ensures.searched _ _ c.take-interval.ensures.high_value
      c.take-interval.ensures.changed (sym c.has_bit.ensures ∙ c.if-not-has_bit.false),
  omega (arith, c.loop-p.invariant.1),
)

pub returns : goal.returns
returns c = walking-done _ _ _ _ _ _ _ _ _ _ _ c.loop-p.invariant.0 (omega arith)
