use Rattle.hermitcasket.proofs.ProgramLaws.{filled-sound, filled-accepted, filled-fits, filled-exact, answered-filled, answered-refused}
use lib.ListN.{replicate}
use native.Mathlib.Omega.{arith}
use Rattle.hermitcasket.proofs.answer.answer_tables.Goals as goal

pub slice_bounds-put_filled-end : goal.slice_bounds-put_filled-end
slice_bounds-put_filled-end c = filled-exact _ c.requires.variables_bound (replicate 8 0) _ (omega arith) c.find_assignment-found.result c.find_assignment-found.ensures c.in-Ok.is

pub put_filled-requires : goal.put_filled-requires
put_filled-requires c = record { variables_value = filled-sound _ c.requires.variables_bound (replicate 8 0) _ (omega arith) c.find_assignment-found.result c.find_assignment-found.ensures c.in-Ok.is; assignment_value = filled-accepted _ c.requires.variables_bound (replicate 8 0) _ (omega arith) c.find_assignment-found.result c.find_assignment-found.ensures c.in-Ok.is; assignment_in_bounds = filled-fits _ c.requires.variables_bound (replicate 8 0) _ (omega arith) c.find_assignment-found.result c.find_assignment-found.ensures c.in-Ok.is c.args.out.now c.requires.in_bounds }

pub returns-in-Ok : goal.returns-in-Ok
returns-in-Ok c = answered-filled _ c.requires.variables_bound (replicate 8 0) _ (omega arith) c.find_assignment-found.result c.find_assignment-found.ensures _ _ _ c.in-Ok.is c.put_filled.ensures

pub returns-in-Err : goal.returns-in-Err
returns-in-Err c = answered-refused _ c.requires.variables_bound (replicate 8 0) _ (omega arith) c.find_assignment-found.result c.find_assignment-found.ensures _ _ _ _ c.in-Err.is c.answer_refused.ensures
