use native.Mathlib.Omega.{arith}
use Rattle.subsumption.specs.Check.{use_fault}
use Rattle.subsumption.proofs.Refusals.{stops, goes_on, handed_up}
use Rattle.subsumption.proofs.AtomMarking.{use-refused, use-many, use-few}
use Rattle.subsumption.proofs.Accepted.{few-numbers, concepts-layered, concepts-roles, concepts-few, inclusions-known, questions-known}
use Rattle.subsumption.proofs.check.check_use.Goals as goal

pub write_sets-requires : goal.write_sets-requires
write_sets-requires c = record { layered = concepts-layered _ c.requires.variables_value; by_index = few-numbers _ c.requires.variables_value }

pub check_inclusions-requires : goal.check_inclusions-requires
check_inclusions-requires c = record { variable_sets = c.write_sets.ensures; concepts_bound = concepts-few _ c.requires.variables_value; known = inclusions-known _ c.requires.variables_value_2 }

pub returns-in_err-check_inclusions : goal.returns-in_err-check_inclusions
unfolding use_fault
returns-in_err-check_inclusions c = rw (handed_up _ c.from_residual.ensures) (use-refused _ _ _ (stops _ _ _ _ c.check_inclusions.ensures c.in_err-check_inclusions.was))

pub check_sides-requires : goal.check_sides-requires
check_sides-requires c = record { variable_sets = c.write_sets.ensures; concepts_bound = concepts-few _ c.requires.variables_value; known = questions-known _ c.requires.variables_value_2 }

pub returns-in_err-check_sides : goal.returns-in_err-check_sides
unfolding use_fault
returns-in_err-check_sides c = rw (handed_up _ c.from_residual-in_err-check_sides.ensures) (use-refused _ _ _ (goes_on _ _ _ _ c.check_inclusions.ensures c.in_ok-check_inclusions.was (stops _ _ _ _ c.check_sides.ensures c.in_err-check_sides.was)))

pub returns-in_err-check_roles : goal.returns-in_err-check_roles
unfolding use_fault
returns-in_err-check_roles c = rw (handed_up _ c.from_residual-in_err-check_roles.ensures) (use-refused _ _ _ (goes_on _ _ _ _ c.check_inclusions.ensures c.in_ok-check_inclusions.was (goes_on _ _ _ _ c.check_sides.ensures c.in_ok-check_sides.was (stops _ _ _ _ c.check_roles.ensures c.in_err-check_roles.was))))

pub mark_atoms-requires : goal.mark_atoms-requires
mark_atoms-requires c = record { layered = concepts-layered _ c.requires.variables_value; by_index = concepts-roles _ c.requires.variables_value; known = inclusions-known _ c.requires.variables_value_2; known_2 = questions-known _ c.requires.variables_value_2; variable_sets = c.write_sets.ensures; marks_value = c.requires.marks_value }

pub count_marks-requires : goal.count_marks-requires
count_marks-requires c = omega (arith, concepts-few _ c.requires.variables_value, c.mark_atoms.ensures.long)

pub returns-then-count_marks-gt-ATOMS : goal.returns-then-count_marks-gt-ATOMS
returns-then-count_marks-gt-ATOMS c = use-many _ _ _ _ _ _ c.check_inclusions.ensures c.in_ok-check_inclusions.was c.check_sides.ensures c.in_ok-check_sides.was c.check_roles.ensures c.in_ok-check_roles.was c.mark_atoms.ensures c.count_marks.ensures _ c.if-count_marks-gt-ATOMS.true

pub returns : goal.returns
returns c = use-few _ _ _ _ _ _ c.check_inclusions.ensures c.in_ok-check_inclusions.was c.check_sides.ensures c.in_ok-check_sides.was c.check_roles.ensures c.in_ok-check_roles.was c.mark_atoms.ensures c.count_marks.ensures c.if-count_marks-gt-ATOMS.false
