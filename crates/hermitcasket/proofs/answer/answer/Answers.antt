use mathlib.Core.Path.{sym}
use native.Mathlib.Omega.{arith}
use lib.Seq.{length-take-le}
use Rattle.hermitcasket.proofs.PlanLaws.{read_fits, text-planned, text-refused}
use Rattle.hermitcasket.proofs.answer.answer.Goals as goal

pub overflow_mul-n : goal.overflow_mul-n
overflow_mul-n c = omega (arith, read_fits _ c.read_text-read.ensures.read_fits _ c.in-Ok.is)

pub overflow_mul-m : goal.overflow_mul-m
overflow_mul-m c = omega (arith, read_fits _ c.read_text-read.ensures.read_fits _ c.in-Ok.is)

pub overflow_mul-k : goal.overflow_mul-k
overflow_mul-k c = omega (arith, read_fits _ c.read_text-read.ensures.read_fits _ c.in-Ok.is)

pub overflow_mul-l : goal.overflow_mul-l
overflow_mul-l c = omega (arith, read_fits _ c.read_text-read.ensures.read_fits _ c.in-Ok.is)

pub slice_bounds-tables-end : goal.slice_bounds-tables-end
slice_bounds-tables-end c = omega (arith, read_fits _ c.read_text-read.ensures.read_fits _ c.in-Ok.is, c.read_text-read.auto, c.requires)

pub slice_bounds-tables-end-in-Ok : goal.slice_bounds-tables-end-in-Ok
slice_bounds-tables-end-in-Ok c = sym
    (length-take-le _ _ (omega (arith, read_fits _ c.read_text-read.ensures.read_fits _ c.in-Ok.is, c.read_text-read.auto, c.requires)))

pub slice_bounds-inclusions-end : goal.slice_bounds-inclusions-end
slice_bounds-inclusions-end c = omega (arith, read_fits _ c.read_text-read.ensures.read_fits _ c.in-Ok.is, c.read_text-read.auto)

pub slice_bounds-tables-end-in-Ok-2 : goal.slice_bounds-tables-end-in-Ok-2
slice_bounds-tables-end-in-Ok-2 c = sym
    (length-take-le _ _ (omega (arith, read_fits _ c.read_text-read.ensures.read_fits _ c.in-Ok.is, c.read_text-read.auto)))

pub slice_bounds-questions-end : goal.slice_bounds-questions-end
slice_bounds-questions-end c = omega (arith, read_fits _ c.read_text-read.ensures.read_fits _ c.in-Ok.is, c.read_text-read.auto)

pub slice_bounds-tables-end-in-Ok-3 : goal.slice_bounds-tables-end-in-Ok-3
slice_bounds-tables-end-in-Ok-3 c = sym
    (length-take-le _ _ (omega (arith, read_fits _ c.read_text-read.ensures.read_fits _ c.in-Ok.is, c.read_text-read.auto)))

pub slice_bounds-roles-end : goal.slice_bounds-roles-end
slice_bounds-roles-end c = omega (arith, read_fits _ c.read_text-read.ensures.read_fits _ c.in-Ok.is, c.read_text-read.auto)

pub slice_bounds-tables-end-in-Ok-4 : goal.slice_bounds-tables-end-in-Ok-4
slice_bounds-tables-end-in-Ok-4 c = sym
    (length-take-le _ _ (omega (arith, read_fits _ c.read_text-read.ensures.read_fits _ c.in-Ok.is, c.read_text-read.auto)))

pub plan_tables-requires : goal.plan_tables-requires
plan_tables-requires c =
    record {
      variables_bound = (read_fits _ c.read_text-read.ensures.read_fits _ c.in-Ok.is).0;
      into_value = c.requires.into_value;
      in_bounds = c.requires.in_bounds_2;
    }

pub returns-in-Ok : goal.returns-in-Ok
returns-in-Ok c = text-planned _ _ _ _ _ _ c.read_text-read.ensures.text_value _ c.in-Ok.is
    (omega (
      arith,
      read_fits _ c.read_text-read.ensures.read_fits _ c.in-Ok.is,
      c.read_text-read.auto,
      c.requires,
    )) _ _ _ _ c.plan_tables.result c.plan_tables.ensures

pub returns-in-Err : goal.returns-in-Err
returns-in-Err c = text-refused _ _ _ _ _ _ c.read_text-read.ensures.text_value _ c.in-Err.is _ _ _ c.answer_refused.ensures
