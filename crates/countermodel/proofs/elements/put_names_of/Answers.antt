use mathlib.Core.Path.{refl}
use native.Mathlib.Omega.{arith}
use Rattle.countermodel.proofs.PuttingLaws.{names-put}
use Rattle.countermodel.proofs.elements.put_names_of.Goals as goal

pub note_names-requires : goal.note_names-requires
note_names-requires c = record { checked = c.requires.checked; i_bound = c.requires.i_bound.0; names_value = refl }

pub returns : goal.returns
returns c = record { upper_bound = omega (arith, c.put_marks.ensures.upper_bound); put = names-put _ _ _ _ _ _ _ _ c.note_names.ensures c.put_marks.ensures.put }
