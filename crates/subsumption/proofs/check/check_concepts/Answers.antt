use Rattle.subsumption.specs.Check.{concept_fault}
use Rattle.subsumption.proofs.Refusals.{handed_up, stops, goes_on}
use Rattle.subsumption.proofs.check.check_concepts.Goals as goal

pub returns-in_err-check_limits : goal.returns-in_err-check_limits
unfolding concept_fault
returns-in_err-check_limits c = rw (handed_up _ c.from_residual.ensures) (stops _ _ _ _ c.check_limits.ensures c.in_err-check_limits.was)

pub returns-in_err-check_rows : goal.returns-in_err-check_rows
unfolding concept_fault
returns-in_err-check_rows c =
    rw (handed_up _ c.from_residual-in_err-check_rows.ensures)
    (goes_on _ _ _ _ c.check_limits.ensures c.in_ok-check_limits.was (stops _ _ _ _ c.check_rows.ensures c.in_err-check_rows.was))

pub returns : goal.returns
unfolding concept_fault
returns c =
    goes_on _ _ _ _ c.check_limits.ensures c.in_ok-check_limits.was
    (goes_on _ _ _ _ c.check_rows.ensures c.in_ok-check_rows.was c.check_inner.ensures)
