use Prim.Native.Nat.{ℕ}
use mathlib.Core.Path.{refl, sym}
use native.Mathlib.Omega.{arith}
use lib.ListN.{length-replicate}
use lib.Seq.{length-take-le}
use Rattle.hermitcasket.proofs.PlanLaws.{whole-within, parts_within, parts_held, parts_all}
use Rattle.hermitcasket.proofs.main.Goals as goal

pub answer-plan-requires : goal.answer-plan-requires
answer-plan-requires c = record { in_bounds = omega arith; into_value = refl; in_bounds_2 = omega (arith, length-replicate {A = ℕ} 4096 0) }

pub slice_bounds-out-end : goal.slice_bounds-out-end
slice_bounds-out-end c = whole-within _ c.answer-plan.result _ _ _ _ _ c.answer-plan.ensures _ c.in-Whole.is

pub slice_bounds-write_all-end : goal.slice_bounds-write_all-end
slice_bounds-write_all-end c = sym (length-take-le _ _ (whole-within _ c.answer-plan.result _ _ _ _ _ c.answer-plan.ensures _ c.in-Whole.is))

pub overflow_mul-m : goal.overflow_mul-m
overflow_mul-m c = omega (arith, parts_within _ c.answer-plan.result _ _ _ _ _ c.answer-plan.ensures _ _ c.in-Parts.is, c.answer-plan.auto)

pub slice_bounds-concepts-end : goal.slice_bounds-concepts-end
slice_bounds-concepts-end c = parts_within _ c.answer-plan.result _ _ _ _ _ c.answer-plan.ensures _ _ c.in-Parts.is

pub slice_bounds-write_parts-end : goal.slice_bounds-write_parts-end
slice_bounds-write_parts-end c = sym (length-take-le _ _ (parts_within _ c.answer-plan.result _ _ _ _ _ c.answer-plan.ensures _ _ c.in-Parts.is))

pub write_parts-requires : goal.write_parts-requires
write_parts-requires c = record { held = parts_held _ c.answer-plan.result _ _ _ _ _ c.answer-plan.ensures _ _ c.in-Parts.is; parts_bound = parts_all _ c.answer-plan.result _ _ _ _ _ c.answer-plan.ensures _ _ c.in-Parts.is; in_bounds = omega (arith, c.answer-plan.auto) }
