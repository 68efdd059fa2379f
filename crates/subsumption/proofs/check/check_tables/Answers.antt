use Rattle.subsumption.proofs.Replies.{same-reply, same-refused}
use mathlib.Core.Path.{refl}
use Rattle.subsumption.proofs.Refusals.{stops, goes_on, is-done, handed_up}
use Rattle.subsumption.specs.Check.{table_fault}
use Rattle.subsumption.proofs.check.check_tables.Goals as goal

pub returns-in_err-check_concepts : goal.returns-in_err-check_concepts
unfolding table_fault
returns-in_err-check_concepts c = rw (handed_up _ c.from_residual.ensures) (same-refused _ _ (stops _ _ _ _ c.check_concepts.ensures c.in_err-check_concepts.was))

pub check_ids-requires : goal.check_ids-requires
check_ids-requires c = is-done _ _ c.check_concepts.ensures c.in_ok-check_concepts.was

pub returns-in_err-check_ids : goal.returns-in_err-check_ids
unfolding table_fault
returns-in_err-check_ids c = rw (handed_up _ c.from_residual-in_err-check_ids.ensures) (same-refused _ _ (goes_on _ _ _ _ c.check_concepts.ensures c.in_ok-check_concepts.was (stops _ _ _ _ c.check_ids.ensures c.in_err-check_ids.was)))

pub check_use-requires : goal.check_use-requires
check_use-requires c = record { variables_value = is-done _ _ c.check_concepts.ensures c.in_ok-check_concepts.was; variables_value_2 = is-done _ _ c.check_ids.ensures c.in_ok-check_ids.was; marks_value = refl }

pub returns : goal.returns
unfolding table_fault
returns c = same-reply c.check_use.result _ (goes_on _ _ _ _ c.check_concepts.ensures c.in_ok-check_concepts.was (goes_on _ _ _ _ c.check_ids.ensures c.in_ok-check_ids.was c.check_use.ensures.answered))
