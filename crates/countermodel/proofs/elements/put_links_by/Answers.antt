use native.Mathlib.Omega.{arith}
use Rattle.countermodel.proofs.PuttingLaws.{links-put}
use Rattle.countermodel.proofs.elements.put_links_by.Goals as goal

pub returns : goal.returns
returns c = record { upper_bound = omega (arith, c.put_marks.ensures.upper_bound, c.requires.checked.layered.few); for_roles = λ roles R. links-put _ _ _ _ _ _ _ _ roles _ (c.note_links.ensures roles R) c.put_marks.ensures.put }
