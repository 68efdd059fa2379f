use Rattle.subsumption.proofs.Deciding.{few-atoms, few-concepts, prepared-ready, put-choices, put-room, put-done}
use Rattle.subsumption.proofs.Refusals.{is-done, buffer-fits, handed_up}
use native.Mathlib.Omega.{arith}
use Rattle.subsumption.proofs.Deciding.{prepared-roles}
use Rattle.subsumption.proofs.table.put_table.Goals as goal

pub check_assignment-requires : goal.check_assignment-requires
check_assignment-requires c = few-atoms _ _ _ _ _ c.requires

pub returns-in_err-check_assignment : goal.returns-in_err-check_assignment
returns-in_err-check_assignment c = rw (handed_up _ c.from_residual.ensures) (put-choices _ _ _ _ _ _ _ _ c.check_assignment.ensures _ c.in_err-check_assignment.was)

pub overflow_mul-count : goal.overflow_mul-count
overflow_mul-count c = omega (arith, few-concepts _ _ _ _ _ c.requires)

pub returns-in_err-check_buffer : goal.returns-in_err-check_buffer
returns-in_err-check_buffer c = rw (handed_up _ c.from_residual-in_err-check_buffer.ensures) (put-room _ _ _ _ _ _ _ _ c.check_assignment.ensures c.in_ok-check_assignment.was _ c.check_buffer.ensures _ c.in_err-check_buffer.was)

pub close-requires : goal.close-requires
close-requires c = record { ready = prepared-ready _ _ _ _ _ c.requires _ _ c.check_assignment.ensures c.in_ok-check_assignment.was; low_roles = prepared-roles _ _ _ _ _ c.requires }

pub write_rows-requires : goal.write_rows-requires
write_rows-requires c = record { count_bound = (omega (arith, few-concepts _ _ _ _ _ c.requires), omega (arith, buffer-fits _ _ (is-done _ _ c.check_buffer.ensures c.in_ok-check_buffer.was))) }

pub count_pairs-requires : goal.count_pairs-requires
count_pairs-requires c = record { count_bound = omega (arith, few-concepts _ _ _ _ _ c.requires) }

pub returns : goal.returns
returns c = put-done _ _ _ _ _ _ _ _ c.check_assignment.ensures c.in_ok-check_assignment.was _ c.check_buffer.ensures _ _ _ c.in_ok-check_buffer.was c.close.ensures c.write_rows.ensures c.count_pairs.ensures
