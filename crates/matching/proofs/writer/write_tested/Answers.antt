use native.Mathlib.Omega.{arith}
use mathlib.Core.Path.{refl}
use Rattle.matching.proofs.WriterLaws.Steps.{kept-none, kept_more, written_none, written-room, written-more, written_last, written-other, begun-last}
use Rattle.matching.proofs.writer.write_tested.Goals as goal

-- src/writer.rt:146:5

pub loop-k-init : goal.loop-k-init
loop-k-init c = (refl, (kept-none _ _, (written_none _ _ _ _ _ _ _ c.requires.blank, c.requires.blank.none _ _ c.requires.left_bound.0 c.requires.left_bound.1)))

-- src/writer.rt:149:13

pub write_line-requires : goal.write_line-requires
write_line-requires c =
    omega (
      arith,
      written-room _ _ _ _ _ _ _ _ c.loop-k.invariant.1.1.0 _ _ _ _ c.in-Some.ensures,
      c.loop-k.invariant.1.0.size,
      c.requires.concepts_in_bounds,
    )

-- src/writer.rt:152:13

pub returns-then-is_pair : goal.returns-then-is_pair
returns-then-is_pair c =
    record {
      begun = begun-last _ _ _ _ _ _ _ _ _ _ (written_last _ _ _ _ _ _ _ _ c.loop-k.invariant.1.1.0 _ _ _ _ c.in-Some.ensures
          c.requires.grounds.ready _ _ c.write_line.ensures c.mark_pair.ensures _ _ _ c.is_pair.ensures c.if-is_pair.true);
      rest_kept = kept_more _ _ _ _ _ _ _ _ _ c.loop-k.invariant.1.0 c.write_line.ensures;
    }

-- src/writer.rt:146:5

pub loop-k-preserved-in-Some : goal.loop-k-preserved-in-Some
loop-k-preserved-in-Some c = (
  omega (arith, c.loop-k.invariant.0),
  (
    kept_more _ _ _ _ _ _ _ _ _ c.loop-k.invariant.1.0 c.write_line.ensures,
    (
      written-more _ _ _ _ _ _ _ _ c.loop-k.invariant.1.1.0 _ _ _ _ c.in-Some.ensures c.requires.grounds.ready _ _ c.write_line.ensures
          c.mark_pair.ensures,
      written-other _ _ _ _ _ _ _ _ c.loop-k.invariant.1.1.0 _ _ _ _ c.in-Some.ensures c.requires.grounds.ready _ _
          c.write_line.ensures c.mark_pair.ensures _ _ _ c.requires.left_bound.0 c.requires.left_bound.1 c.is_pair.ensures c.if-is_pair.false
          c.loop-k.invariant.1.1.1,
    ),
  ),
)

-- src/writer.rt:146:5
