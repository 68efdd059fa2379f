use native.Mathlib.Omega.{arith}
use Rattle.subsumption.proofs.Refusals.{is-done, handed_up}
use Rattle.matching.proofs.ChosenLaws.Faults.{choices-length, choices-low, known-unknown, known-choices, known-short, known-done, chosen-refused, chosen-done}
use Rattle.matching.proofs.chosen.put_known.Goals as goal

pub returns-then-variables-variable : goal.returns-then-variables-variable
returns-then-variables-variable c = let all = chosen-refused _ _ _ _ (known-unknown _ _ _ _ _ (omega arith)) in record { result_value = all.0; out_value = all.1 }

pub returns-in_err-check_assignment : goal.returns-in_err-check_assignment
returns-in_err-check_assignment c = let all = chosen-refused _ _ _ _ (known-choices _ _ _ _ _ _ _ (omega arith) c.check_assignment.ensures c.in_err-check_assignment.was) in record { result_value = rw (handed_up _ c.from_residual.ensures) all.0; out_value = all.1 }

pub returns-then-out-lt-ATOMS : goal.returns-then-out-lt-ATOMS
returns-then-out-lt-ATOMS c = let all = chosen-refused _ _ _ _ (known-short _ _ _ _ _ (omega arith) (is-done _ _ c.check_assignment.ensures c.in_ok-check_assignment.was) (omega arith)) in record { result_value = all.0; out_value = all.1 }

pub bounds-assignment-variable : goal.bounds-assignment-variable
bounds-assignment-variable c = omega (arith, choices-length _ _ _ (is-done _ _ c.check_assignment.ensures c.in_ok-check_assignment.was))

pub put_picked-requires : goal.put_picked-requires
put_picked-requires c = record { ids_len_bound = c.requires; choice_bound = choices-low _ _ _ _ (is-done _ _ c.check_assignment.ensures c.in_ok-check_assignment.was) (omega arith); in_bounds = omega arith }

pub returns : goal.returns
returns c = let all = chosen-done _ _ _ _ _ (known-done _ _ _ _ _ (omega arith) (is-done _ _ c.check_assignment.ensures c.in_ok-check_assignment.was) (omega arith)) c.put_picked.ensures.value c.put_picked.ensures.out_value in record { result_value = all.0; out_value = all.1 }
