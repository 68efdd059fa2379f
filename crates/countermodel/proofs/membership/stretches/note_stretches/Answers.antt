use native.Mathlib.Omega.{arith}
use lib.ListN.{length-set}
use Rattle.countermodel.proofs.MemberLaws.Stretching.{stretching-none, place-known, stretching-more, stretching-new, stretching-done}
use Rattle.countermodel.proofs.membership.stretches.note_stretches.Goals.{then-past-eq0, else-past-eq0}
use Rattle.countermodel.proofs.membership.stretches.note_stretches.Goals as goal

pub loop-p-init : goal.loop-p-init
loop-p-init c = stretching-none _ _ c.requires.ends_value

pub overflow_cast-kind : goal.overflow_cast-kind
overflow_cast-kind c = omega (arith, place-known _ c.loop-p.p c.requires.low_rows (omega arith))

pub overflow_cast-element : goal.overflow_cast-element
overflow_cast-element c = omega (arith, place-known _ c.loop-p.p c.requires.low_rows (omega arith))

pub overflow_mul-place : goal.overflow_mul-place
overflow_mul-place c = omega (arith, place-known _ c.loop-p.p c.requires.low_rows (omega arith))

pub overflow_mul-place-in-loop-p : goal.overflow_mul-place-in-loop-p
overflow_mul-place-in-loop-p c = omega (arith, place-known _ c.loop-p.p c.requires.low_rows (omega arith))

pub overflow_add-place : goal.overflow_add-place
overflow_add-place c = omega (arith, place-known _ c.loop-p.p c.requires.low_rows (omega arith))

pub overflow_add-past : goal.overflow_add-past
overflow_add-past c = omega (arith, place-known _ c.loop-p.p c.requires.low_rows (omega arith))

pub offset_bounds-ends-place : goal.offset_bounds-ends-place
offset_bounds-ends-place c = omega (arith, place-known _ c.loop-p.p c.requires.low_rows (omega arith))

pub bounds-ends-place : goal.bounds-ends-place
bounds-ends-place c = omega (arith, place-known _ c.loop-p.p c.requires.low_rows (omega arith))

pub overflow_add-ends : goal.overflow_add-ends
overflow_add-ends c = omega (arith, place-known _ c.loop-p.p c.requires.low_rows (omega arith))

pub offset_bounds-ends-place-in-loop-p : goal.offset_bounds-ends-place-in-loop-p
offset_bounds-ends-place-in-loop-p c = omega (arith, place-known _ c.loop-p.p c.requires.low_rows (omega arith))

pub bounds-ends-place-in-loop-p : goal.bounds-ends-place-in-loop-p
bounds-ends-place-in-loop-p c = omega (arith, place-known _ c.loop-p.p c.requires.low_rows (omega arith))

pub offset_bounds-ends-place-then-past-eq0 : goal.offset_bounds-ends-place-then-past-eq0
offset_bounds-ends-place-then-past-eq0 c = omega (arith, place-known _ c.loop-p.p c.requires.low_rows (omega arith))

pub bounds-ends-place-then-past-eq0 : goal.bounds-ends-place-then-past-eq0
bounds-ends-place-then-past-eq0 c = simp length-set (omega (arith, place-known _ c.loop-p.p c.requires.low_rows (omega arith)))

pub loop-p-preserved : goal.loop-p-preserved
loop-p-preserved c =
    elim c.if-past-eq0.branch [
      | then-past-eq0 w ↦ rw w.ends-is (stretching-new _ _ _ c.requires.low_rows c.loop-p.invariant (omega arith) w.if-past-eq0.true)
      | else-past-eq0 w ↦ rw w.ends-is (stretching-more _ _ _ c.requires.low_rows c.loop-p.invariant (omega arith))
    ]

pub returns : goal.returns
returns c = stretching-done _ _ _ c.loop-p.invariant (omega arith)
