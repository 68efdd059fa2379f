use native.Mathlib.Omega.{arith}
use lib.ListN.{replicate}
use Rattle.hermitcasket.proofs.FillLaws.{chosen-room, wrote-chosen}
use Rattle.hermitcasket.proofs.filled.put_variable.Goals as goal

pub put_fill-requires : goal.put_fill-requires
put_fill-requires c = chosen-room _ _ c.requires.assignment_value _ (replicate 64 0) _ c.requires.variables_value c.requires.variable_lt_variables (omega arith) c.list_chosen-ids.ensures.result_value _ _ c.requires.variable_in_bounds

pub returns : goal.returns
returns c = wrote-chosen _ _ c.requires.assignment_value _ (replicate 64 0) _ c.requires.variables_value c.requires.variable_lt_variables (omega arith) c.list_chosen-ids.ensures.result_value _ _ _ _ c.put_fill.ensures
