use mathlib.Core.Path.{sym, ◌∙◌}
use native.Mathlib.Omega.{arith}
use Rattle.allowance.proofs.PlaceLaws.{climbs-none, climbed-top, climbed-up, climbed-aside}
use Rattle.allowance.proofs.place.Place.next_sibling.Goals as goal

pub loop-at-init : goal.loop-at-init
loop-at-init c = (c.requires.low_len.0, c.requires.low_len.1, c.requires.count_bound.1, climbs-none _ _ _ _ _)

pub is_taken-taken-requires : goal.is_taken-taken-requires
is_taken-taken-requires c = (c.requires.count_bound.0, c.loop-at-test.true, c.loop-at.invariant.2)

pub up-parent-requires : goal.up-parent-requires
up-parent-requires c = record { low_len = (c.loop-at.invariant.0, c.loop-at.invariant.1); count_bound = (c.requires.count_bound.0, c.loop-at-test.true, c.loop-at.invariant.2) }

pub take-requires : goal.take-requires
take-requires c =
    record {
      low_len = (c.up-parent.ensures.changed.long, c.up-parent.ensures.changed_2.long);
      count_bound = (
        c.requires.count_bound.0,
        omega (
          arith,
          c.up-parent.ensures.settled_value,
          c.loop-at.invariant.2,
          c.loop-at-test.true,
        ),
      );
    }

pub returns-then-not-taken : goal.returns-then-not-taken
returns-then-not-taken c = (
  (
    c.take.ensures.changed.long,
    c.take.ensures.changed_2.long,
    omega (arith, c.take.ensures.settled_value, c.up-parent.ensures.settled_value, c.loop-at.invariant.2, c.loop-at-test.true),
  ),
  λ s w e. climbed-aside _ _ _ _ _ s (c.loop-at.invariant.3 s w e) _ c.up-parent.ensures.settled_value c.loop-at-test.true _ _
      c.up-parent.ensures.changed c.up-parent.ensures.changed_2
      (sym c.is_taken-taken.ensures ∙ c.if-not-taken.true) _ _ _ c.take.ensures.settled_value c.take.ensures.changed
      c.take.ensures.changed_2,
)

pub loop-at-smaller : goal.loop-at-smaller
loop-at-smaller c = omega (arith, c.up-parent.ensures.settled_value, c.loop-at-test.true)

pub loop-at-preserved : goal.loop-at-preserved
loop-at-preserved c = (c.up-parent.ensures.changed.long, c.up-parent.ensures.changed_2.long, omega (arith, c.up-parent.ensures.settled_value, c.loop-at.invariant.2), λ s w e. climbed-up _ _ _ _ _ s (c.loop-at.invariant.3 s w e) _ c.up-parent.ensures.settled_value c.loop-at-test.true _ _ c.up-parent.ensures.changed c.up-parent.ensures.changed_2 (sym c.is_taken-taken.ensures ∙ c.if-not-taken.false))

pub returns : goal.returns
returns c = λ s w e. climbed-top _ _ _ _ _ s (c.loop-at.invariant.3 s w e) c.loop-at-test.false
