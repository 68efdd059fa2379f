use Prim.Native.Nat.{ℕ}
use Rattle.matching.proofs.WriterLaws.Steps.{measure-less}
use native.Mathlib.Omega.{arith}
use Prim.Native.Nat.{◌+◌}
use mathlib.Core.Path.{refl, ◌∙◌, ap}
use Rattle.matching.specs.Inner.Writer.{unset}
use Rattle.matching.proofs.DerivationLaws.Cells.{cell-small, square-small}
use Rattle.matching.proofs.WriterLaws.Steps.{kept-none, kept_more, started-some, unset-less, written-room, written-more, written_last, written-other, scan-stops}
use Rattle.matching.proofs.writer.write_more.Goals as goal

pub loop-rule-init : goal.loop-rule-init
loop-rule-init c = (refl, (kept-none _ _, (c.requires.written, c.requires.right_value)))

pub next_line-next-requires : goal.next_line-next-requires
next_line-next-requires c = record { grounds = c.requires.grounds; square = c.loop-rule.invariant.1.1.0.marked.square }

pub overflow_cast-rule : goal.overflow_cast-rule
overflow_cast-rule c = omega (arith, c.in-Some.ensures.gives.rule-low)

pub overflow_cast-i : goal.overflow_cast-i
overflow_cast-i c = omega (arith, c.in-Some.ensures.left-known, c.requires.grounds.ready.few)

pub overflow_cast-j : goal.overflow_cast-j
overflow_cast-j c = omega (arith, c.in-Some.ensures.right-known, c.requires.grounds.ready.few)

pub overflow_cast-extra : goal.overflow_cast-extra
overflow_cast-extra c = omega (arith, c.in-Some.ensures.gives.extra-low)

pub write_line-requires : goal.write_line-requires
write_line-requires c =
    omega (
      arith,
      written-room _ _ _ _ _ _ _ _ c.loop-rule.invariant.1.1.0 _ _ _ _ c.in-Some.ensures,
      c.loop-rule.invariant.1.0.size,
      c.requires.concepts_in_bounds,
    )

pub mark_pair-requires : goal.mark_pair-requires
mark_pair-requires c =
    record {
      square = c.loop-rule.invariant.1.1.0.marked.square;
      i_lt_count = (c.in-Some.ensures.left-known, c.in-Some.ensures.right-known);
    }

pub overflow_add-n : goal.overflow_add-n
overflow_add-n c =
    omega (
      arith,
      written-room _ _ _ _ _ _ _ _ c.loop-rule.invariant.1.1.0 _ _ _ _ c.in-Some.ensures,
      square-small _ c.requires.grounds.ready.few,
    )

pub overflow_mul-from : goal.overflow_mul-from
overflow_mul-from c =
    omega (arith, cell-small _ _ _ _ c.loop-rule.invariant.1.1.0.marked.square c.in-Some.ensures.left-known c.in-Some.ensures.right-known)

pub overflow_add-from : goal.overflow_add-from
overflow_add-from c =
    omega (arith, cell-small _ _ _ _ c.loop-rule.invariant.1.1.0.marked.square c.in-Some.ensures.left-known c.in-Some.ensures.right-known)

pub overflow_add-from-in-Some : goal.overflow_add-from-in-Some
overflow_add-from-in-Some c =
    omega (arith, cell-small _ _ _ _ c.loop-rule.invariant.1.1.0.marked.square c.in-Some.ensures.left-known c.in-Some.ensures.right-known)

pub shape_of-marks-then-is_pair : goal.shape_of-marks-then-is_pair
shape_of-marks-then-is_pair c = omega (arith, c.loop-rule.invariant.0)

pub shape_of-out-then-is_pair : goal.shape_of-out-then-is_pair
shape_of-out-then-is_pair c = c.write_line.ensures.size ∙ c.loop-rule.invariant.1.0.size

pub returns-then-is_pair : goal.returns-then-is_pair
returns-then-is_pair c =
    record {
      written_to = written_last _ _ _ _ _ _ _ _ c.loop-rule.invariant.1.1.0 _ _ _ _ c.in-Some.ensures c.requires.grounds.ready _ _
          c.write_line.ensures c.mark_pair.ensures _ _ _ c.is_pair.ensures c.if-is_pair.true;
      rest_kept = kept_more _ _ _ _ _ _ _ _ _ c.loop-rule.invariant.1.0 c.write_line.ensures;
    }

pub loop-rule-smaller-in-Some : goal.loop-rule-smaller-in-Some
loop-rule-smaller-in-Some c =
    measure-less _ _ _ _ (ap (λ (z : ℕ). z + 1) (ap unset c.mark_pair.ensures)
    ∙ unset-less _ _ _ _ _ _ _ _ c.loop-rule.invariant.1.1.0 _ _ _ _ c.in-Some.ensures)

pub loop-rule-preserved-in-Some : goal.loop-rule-preserved-in-Some
loop-rule-preserved-in-Some c = (
  omega (arith, c.loop-rule.invariant.0),
  (
    kept_more _ _ _ _ _ _ _ _ _ c.loop-rule.invariant.1.0 c.write_line.ensures,
    (
      written-more _ _ _ _ _ _ _ _ c.loop-rule.invariant.1.1.0 _ _ _ _ c.in-Some.ensures c.requires.grounds.ready _ _ c.write_line.ensures
          c.mark_pair.ensures,
      written-other _ _ _ _ _ _ _ _ c.loop-rule.invariant.1.1.0 _ _ _ _ c.in-Some.ensures c.requires.grounds.ready _ _
          c.write_line.ensures c.mark_pair.ensures _ _ _ c.requires.asked.left-known c.requires.asked.right-known c.is_pair.ensures
          c.if-is_pair.false c.loop-rule.invariant.1.1.1,
    ),
  ),
)

pub shape_of-marks-then-from-eq0 : goal.shape_of-marks-then-from-eq0
shape_of-marks-then-from-eq0 c = c.loop-rule.invariant.0

pub shape_of-out-then-from-eq0 : goal.shape_of-out-then-from-eq0
shape_of-out-then-from-eq0 c = c.loop-rule.invariant.1.0.size

pub returns-then-from-eq0 : goal.returns-then-from-eq0
returns-then-from-eq0 c =
    absurd (scan-stops _ _ _ _ _ _ _ c.in_default.ensures _ _ c.requires.asked c.loop-rule.invariant.1.1.1 c.if-from-eq0.true)

pub loop-rule-smaller : goal.loop-rule-smaller
loop-rule-smaller c = omega (arith, started-some _ c.if-from-eq0.false)

pub loop-rule-preserved : goal.loop-rule-preserved
loop-rule-preserved c = c.loop-rule.invariant
