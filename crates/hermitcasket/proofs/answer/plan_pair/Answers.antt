use mathlib.Core.Path.{sym}
use native.Mathlib.Omega.{arith}
use lib.ListN.{replicate}
use lib.Seq.{length-take-le}
use Rattle.hermitcasket.proofs.PlanLaws.{pair-roles, pair-few, pair_parts, pair-refused}
use Rattle.hermitcasket.proofs.answer.plan_pair.Goals as goal

pub slice_bounds-judge_pair-end : goal.slice_bounds-judge_pair-end
slice_bounds-judge_pair-end c = sym (length-take-le _ (replicate 8 0) (omega arith))

pub note_roles-requires : goal.note_roles-requires
note_roles-requires c = record { low_roles = pair-roles _ c.requires.variables_bound _ _ _ _ c.judge_pair-judged.ensures c.in-Ok.is; into_value = c.requires.into_value }

pub overflow_mul-result : goal.overflow_mul-result
overflow_mul-result c = omega (arith, pair-few _ c.requires.variables_bound _ _ _ _ c.judge_pair-judged.ensures c.in-Ok.is)

pub overflow_add-result-in-Ok : goal.overflow_add-result-in-Ok
overflow_add-result-in-Ok c = omega (arith, pair-few _ c.requires.variables_bound _ _ _ _ c.judge_pair-judged.ensures c.in-Ok.is)

pub returns-in-Ok : goal.returns-in-Ok
returns-in-Ok c = pair_parts _ c.requires.variables_bound _ _ _ _ c.judge_pair-judged.ensures c.in-Ok.is _ _ c.note_roles.ensures

pub returns-in-Err : goal.returns-in-Err
returns-in-Err c = pair-refused _ c.requires.variables_bound _ _ _ _ c.judge_pair-judged.ensures _ c.in-Err.is _ _ _ c.answer_refused.ensures
