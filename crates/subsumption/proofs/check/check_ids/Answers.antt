use Rattle.subsumption.specs.Check.{id_fault}
use Rattle.subsumption.proofs.Refusals.{handed_up, stops, goes_on}
use Rattle.subsumption.proofs.Accepted.{inclusions-few}
use Rattle.subsumption.proofs.check.check_ids.Goals as goal

pub returns-in_err-check_pairs : goal.returns-in_err-check_pairs
unfolding id_fault
returns-in_err-check_pairs c = rw (handed_up _ c.from_residual.ensures) (stops _ _ _ _ c.check_pairs.ensures c.in_err-check_pairs.was)

pub check_pairs-requires-2 : goal.check_pairs-requires-2
check_pairs-requires-2 c = search inclusions-few

pub returns : goal.returns
unfolding id_fault
returns c = goes_on _ _ _ _ c.check_pairs.ensures c.in_ok-check_pairs.was c.check_pairs-2.ensures
