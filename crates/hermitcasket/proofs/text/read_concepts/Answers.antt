use native.Mathlib.Omega.{arith}
use Rattle.subsumption.proofs.Refusals.{handed_up}
use Rattle.hermitcasket.proofs.SectionLaws.{counted-few, counted-within, lines-room, lines-used, section-refused, section-off, section-through}
use Rattle.hermitcasket.proofs.text.read_concepts.Goals as goal

pub returns-in_err-counted : goal.returns-in_err-counted
returns-in_err-counted c =
    rw (handed_up _ c.from_residual.ensures) (section-refused _ _ _ _ _ _ c.read_count.ensures _ _ _ _ c.in_err-counted.was)

pub behind-rows-requires : goal.behind-rows-requires
behind-rows-requires c = counted-within _ _ _ _ _ _ c.read_count.ensures _ c.in_ok-counted.was

pub overflow_add-at : goal.overflow_add-at
overflow_add-at c = omega (arith, counted-within _ _ _ _ _ _ c.read_count.ensures _ c.in_ok-counted.was, c.requires)

pub read_rows-requires : goal.read_rows-requires
read_rows-requires c =
    record {
      part_bound = lines-room _ _ _ _ _ _ c.read_count.ensures _ c.in_ok-counted.was _ c.behind-rows.ensures c.requires.rest_bound;
      count_in_bounds = omega (arith, counted-few _ _ _ _ _ _ c.read_count.ensures _ c.in_ok-counted.was, c.requires);
    }

pub returns-in_err-m : goal.returns-in_err-m
returns-in_err-m c =
    rw (handed_up _ c.from_residual-in_err-m.ensures)
    (section-off _ _ _ _ _ _ c.read_count.ensures _ c.in_ok-counted.was _ c.behind-rows.ensures _ _ _ _ c.read_rows.ensures _ c.in_err-m.was)

pub overflow_add-result : goal.overflow_add-result
overflow_add-result c =
    omega (
      arith,
      lines-used _ _ _ _ _ _ c.read_count.ensures _ c.in_ok-counted.was _ c.behind-rows.ensures _ _ _ _ c.read_rows.ensures _ c.in_ok-m.was,
      c.well_formed,
    )

pub returns : goal.returns
returns c =
    section-through _ _ _ _ _ _ c.read_count.ensures _ c.in_ok-counted.was _ c.behind-rows.ensures _ _ _ _ c.read_rows.ensures _ c.in_ok-m.was
