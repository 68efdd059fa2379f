use Rattle.matching.proofs.ChosenLaws.Faults.{handed}
use Rattle.matching.proofs.chosen.list_chosen.Goals as goal

pub slice_bounds-result-end : goal.slice_bounds-result-end
slice_bounds-result-end c = (handed _ _ _ _ c.put_chosen-answer.result _ c.put_chosen-answer.ensures.replied c.put_chosen-answer.ensures.written c.tell-told.ensures).long

pub returns : goal.returns
returns c = let h = handed _ _ _ _ c.put_chosen-answer.result _ c.put_chosen-answer.ensures.replied c.put_chosen-answer.ensures.written c.tell-told.ensures in record { result_value = h.back; number_value = h.number; place_value = h.place }
