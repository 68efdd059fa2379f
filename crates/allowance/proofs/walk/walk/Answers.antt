use mathlib.Core.Path.{refl, sym}
use native.Mathlib.Omega.{arith}
use lib.ListN.{replicate}
use Rattle.allowance.proofs.KeptLaws.{kept-none}
use Rattle.allowance.proofs.WalkLaws.{standing-none, leave-standing, leave-read, leave-less, next_none, next-has, next-standing, next-read, next-less, goes_none, goes-leave, goes-next, walked-spent, walked-found, walked_none}
use Rattle.allowance.proofs.walk.walk.Goals as goal

pub loop-permitted-init : goal.loop-permitted-init
loop-permitted-init c = (standing-none _ _ _ c.requires.permitted_len.0, omega arith, refl, refl, goes_none _ _ _ _ _ _ (replicate 8 0) kept-none)

pub slice_bounds-is_open-end : goal.slice_bounds-is_open-end
slice_bounds-is_open-end c = sym c.loop-permitted.invariant.2

pub slice_bounds-is_open-end-in-loop-permitted : goal.slice_bounds-is_open-end-in-loop-permitted
slice_bounds-is_open-end-in-loop-permitted c = sym c.loop-permitted.invariant.3

pub is_open-requires : goal.is_open-requires
is_open-requires c = record { shaped = c.requires.shaped; scratch_len = (c.loop-permitted.invariant.2, c.loop-permitted.invariant.3); permitted_len = (c.requires.permitted_len.0, c.loop-permitted.invariant.0.words.low-side.long, c.loop-permitted.invariant.0.words.high-side.long) }

pub returns-then-met-allowance : goal.returns-then-met-allowance
returns-then-met-allowance c = walked-spent _ _ _ _ _ _ _ _ _ c.loop-permitted.invariant.0 _ _ c.loop-permitted.invariant.4 c.is_open.result c.is_open.ensures.opened_by _ c.if-is_open.true c.if-met-allowance.true

pub returns-then-place-pairs : goal.returns-then-place-pairs
returns-then-place-pairs c = walked-found _ _ _ _ _ _ _ _ _ c.loop-permitted.invariant.0 _ _ c.loop-permitted.invariant.4 c.is_open.result c.is_open.ensures.opened_by _ c.if-is_open.true (omega (arith, c.loop-permitted.invariant.1, c.if-met-allowance.false)) c.if-place-pairs.true

pub leave-next-requires : goal.leave-next-requires
leave-next-requires c = record { low_len = (c.loop-permitted.invariant.0.words.low-side.long, c.loop-permitted.invariant.0.words.high-side.long); count_bound = (c.requires.permitted_len.1, omega (arith, c.loop-permitted.invariant.0.few, c.requires.permitted_len.2, c.if-place-pairs.false)) }

pub loop-permitted-smaller-then-is_open : goal.loop-permitted-smaller-then-is_open
loop-permitted-smaller-then-is_open c = leave-less _ _ _ _ _ _ c.loop-permitted.invariant.0 _ _ _ (omega (arith, c.loop-permitted.invariant.0.few, c.if-place-pairs.false)) c.requires.permitted_len.2 c.leave-next.ensures.low_value.0 c.leave-next.ensures.low_value.1 c.leave-next.ensures.changed

pub loop-permitted-preserved-then-is_open : goal.loop-permitted-preserved-then-is_open
loop-permitted-preserved-then-is_open c = (leave-standing _ _ _ _ _ _ c.loop-permitted.invariant.0 _ _ _ (omega (arith, c.loop-permitted.invariant.0.few, c.if-place-pairs.false)) c.requires.permitted_len.2 c.leave-next.ensures.low_value.0 c.leave-next.ensures.low_value.1 c.leave-next.ensures.changed, omega (arith, c.loop-permitted.invariant.1, c.if-met-allowance.false), omega arith, c.is_open.ensures.kept_len, goes-leave _ _ _ _ _ _ _ _ _ c.loop-permitted.invariant.0 _ _ c.loop-permitted.invariant.4 c.is_open.result c.is_open.ensures.opened_by c.if-is_open.true (omega (arith, c.loop-permitted.invariant.0.few, c.if-place-pairs.false)) c.leave-next.result.low c.leave-next.result.settled (leave-read _ _ _ _ _ _ c.loop-permitted.invariant.0 _ _ _ (omega (arith, c.loop-permitted.invariant.0.few, c.if-place-pairs.false)) c.requires.permitted_len.2 c.leave-next.ensures.low_value.0 c.leave-next.ensures.low_value.1 c.leave-next.ensures.changed))

pub next_sibling-next-requires : goal.next_sibling-next-requires
next_sibling-next-requires c = record { low_len = (c.loop-permitted.invariant.0.words.low-side.long, c.loop-permitted.invariant.0.words.high-side.long); count_bound = (c.requires.permitted_len.1, omega (arith, c.loop-permitted.invariant.0.few, c.requires.permitted_len.2)) }

pub returns-in_default : goal.returns-in_default
returns-in_default c =
    walked_none _ _ _ _ _ _ _ _ _ c.loop-permitted.invariant.0 _ _ c.loop-permitted.invariant.4 c.is_open.result
    c.is_open.ensures.opened_by _ c.if-is_open.false c.loop-permitted.invariant.1
    (next_none _ _ _ _ _ _ c.loop-permitted.invariant.0 c.in_default.ensures)

pub loop-permitted-smaller : goal.loop-permitted-smaller
loop-permitted-smaller c = next-less _ _ _ _ _ _ c.loop-permitted.invariant.0 _ _ _ c.in-Some.ensures.1

pub loop-permitted-preserved : goal.loop-permitted-preserved
loop-permitted-preserved c = (
  next-standing _ _ _ _ _ _ c.loop-permitted.invariant.0 _ _ _ c.in-Some.ensures.1,
  c.loop-permitted.invariant.1,
  omega arith,
  c.is_open.ensures.kept_len,
  goes-next _ _ _ _ _ _ _ _ _ c.loop-permitted.invariant.0 _ _ c.loop-permitted.invariant.4 c.is_open.result
      c.is_open.ensures.opened_by c.if-is_open.false c.in-Some.sibling.low c.in-Some.sibling.settled
      (next-has _ _ _ _ _ _ c.loop-permitted.invariant.0 _ _ _ c.in-Some.ensures.1)
      (next-read _ _ _ _ _ _ c.loop-permitted.invariant.0 _ _ _ c.in-Some.ensures.1),
)
