use Rattle.subsumption.proofs.ListingLaws.{listing-concepts, listing-ids, listing-used}
use Rattle.subsumption.proofs.Refusals.{is-done, handed_up}
use Rattle.subsumption.proofs.listing.list_atoms.Goals as goal

pub returns-in_err-check_concepts : goal.returns-in_err-check_concepts
returns-in_err-check_concepts c = rw (handed_up _ c.from_residual.ensures) (listing-concepts _ _ _ c.check_concepts.ensures _ c.in_err-check_concepts.was)

pub check_ids-requires : goal.check_ids-requires
check_ids-requires c = is-done _ _ c.check_concepts.ensures c.in_ok-check_concepts.was

pub returns-in_err-check_ids : goal.returns-in_err-check_ids
returns-in_err-check_ids c = rw (handed_up _ c.from_residual-in_err-check_ids.ensures) (listing-ids _ _ _ c.check_concepts.ensures c.in_ok-check_concepts.was _ c.check_ids.ensures _ c.in_err-check_ids.was)

pub list_used-requires : goal.list_used-requires
list_used-requires c = record { variables_value = is-done _ _ c.check_concepts.ensures c.in_ok-check_concepts.was; variables_value_2 = is-done _ _ c.check_ids.ensures c.in_ok-check_ids.was }

pub returns : goal.returns
returns c = listing-used _ c.args.out.now _ c.check_concepts.ensures c.in_ok-check_concepts.was _ c.check_ids.ensures _ _ c.in_ok-check_ids.was c.list_used.ensures
