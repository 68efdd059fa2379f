use mathlib.Core.Path.{refl}
use Rattle.renumbering.proofs.OperationLaws.{accepted-few, accepted-inward, passed-tables, passed-order, passed-own, passed-few, passed-inclusions, passed-questions, concepts-room, inclusions-room, questions-room, renumber-refused, renumber-done}
use Rattle.subsumption.proofs.Refusals.{handed_up}
use Rattle.renumbering.proofs.renumber.renumber_tables.Goals as goal

pub returns-in_err-check_renumbering : goal.returns-in_err-check_renumbering
returns-in_err-check_renumbering c = rw (handed_up _ c.from_residual.ensures) (renumber-refused _ _ _ _ _ _ c.check_renumbering.ensures _ c.in_err-check_renumbering.was)

pub invert-requires : goal.invert-requires
invert-requires c = record { arranges = passed-own _ _ _ _ _ _ c.check_renumbering.ensures c.in_ok-check_renumbering.was; order_len_bound = passed-few _ _ _ _ _ _ c.check_renumbering.ensures c.in_ok-check_renumbering.was; back_len = refl }

pub put_rows-requires : goal.put_rows-requires
put_rows-requires c = record { inward = accepted-inward _ (passed-tables _ _ _ _ _ _ c.check_renumbering.ensures c.in_ok-check_renumbering.was); concepts_bound = accepted-few _ (passed-tables _ _ _ _ _ _ c.check_renumbering.ensures c.in_ok-check_renumbering.was); concepts_in_bounds = concepts-room _ _ _ _ _ _ c.check_renumbering.ensures c.in_ok-check_renumbering.was; order_len = (passed-order _ _ _ _ _ _ c.check_renumbering.ensures c.in_ok-check_renumbering.was).long; arranges = passed-order _ _ _ _ _ _ c.check_renumbering.ensures c.in_ok-check_renumbering.was; leads_back = c.invert.ensures }

pub put_ids-requires : goal.put_ids-requires
put_ids-requires c = record { ids_below = passed-inclusions _ _ _ _ _ _ c.check_renumbering.ensures c.in_ok-check_renumbering.was; ids_in_bounds = inclusions-room _ _ _ _ _ _ c.check_renumbering.ensures c.in_ok-check_renumbering.was }

pub put_ids-requires-2 : goal.put_ids-requires-2
put_ids-requires-2 c = record { ids_below = passed-questions _ _ _ _ _ _ c.check_renumbering.ensures c.in_ok-check_renumbering.was; ids_in_bounds = questions-room _ _ _ _ _ _ c.check_renumbering.ensures c.in_ok-check_renumbering.was }

pub returns : goal.returns
returns c = renumber-done _ _ _ _ _ _ c.check_renumbering.ensures c.in_ok-check_renumbering.was _ _ _ c.put_rows.ensures c.put_ids.ensures c.put_ids-2.ensures
