use lib.ListN.{length-set}
use native.Mathlib.Omega.{arith}
use Rattle.allowance.proofs.KeptLaws.{noted-at}
use Rattle.allowance.proofs.kept.note.Goals as goal

pub overflow_add-noted : goal.overflow_add-noted
overflow_add-noted c = omega (arith, c.ring_at-ring.ensures.1)

pub offset_bounds-kept-ring : goal.offset_bounds-kept-ring
offset_bounds-kept-ring c = omega (arith, c.ring_at-ring.ensures.1)

pub bounds-kept-ring : goal.bounds-kept-ring
bounds-kept-ring c = omega (arith, c.ring_at-ring.ensures.1)

pub overflow_add-ring : goal.overflow_add-ring
overflow_add-ring c = omega (arith, c.ring_at-ring.ensures.1)

pub put-requires : goal.put-requires
put-requires c = omega (arith, c.ring_at-ring.ensures.1)

pub overflow_add-kept-then-noted-lt31 : goal.overflow_add-kept-then-noted-lt31
overflow_add-kept-then-noted-lt31 c = omega (arith, c.ring_at-ring.ensures.1)

pub offset_bounds-kept-ring-then-noted-lt31 : goal.offset_bounds-kept-ring-then-noted-lt31
offset_bounds-kept-ring-then-noted-lt31 c = omega (arith, c.ring_at-ring.ensures.1)

pub bounds-kept-ring-then-noted-lt31 : goal.bounds-kept-ring-then-noted-lt31
bounds-kept-ring-then-noted-lt31 c = omega (arith, c.ring_at-ring.ensures.1, c.put.ensures.size)

pub shape_of-kept-then-noted-lt31 : goal.shape_of-kept-then-noted-lt31
shape_of-kept-then-noted-lt31 c = simp length-set c.put.ensures.size

pub returns-then-noted-lt31 : goal.returns-then-noted-lt31
returns-then-noted-lt31 c = noted-at _ _ _ _ _ c.requires.0 c.requires.1 _ c.ring_at-ring.ensures.0 c.put.ensures _ (omega arith)

pub overflow_add-kept-2 : goal.overflow_add-kept-2
overflow_add-kept-2 c = omega (arith, c.ring_at-ring.ensures.1)

pub offset_bounds-kept-ring-2 : goal.offset_bounds-kept-ring-2
offset_bounds-kept-ring-2 c = omega (arith, c.ring_at-ring.ensures.1)

pub bounds-kept-ring-2 : goal.bounds-kept-ring-2
bounds-kept-ring-2 c = omega (arith, c.ring_at-ring.ensures.1, c.put.ensures.size)

pub shape_of-kept : goal.shape_of-kept
shape_of-kept c = simp length-set c.put.ensures.size

pub returns : goal.returns
returns c = noted-at _ _ _ _ _ c.requires.0 c.requires.1 _ c.ring_at-ring.ensures.0 c.put.ensures _ (omega arith)
