use mathlib.Core.Path.{refl}
use native.Mathlib.Omega.{arith}
use Rattle.hermitcasket.proofs.SizeLaws.{links-short}
use Rattle.hermitcasket.proofs.ShownLaws.{output-links}
use Rattle.hermitcasket.proofs.parts.put_links.Goals as goal

pub note_links-requires : goal.note_links-requires
note_links-requires c = record { checked = c.requires.checked; i_bound = c.requires.i_bound; links_value = refl }

pub put_marks-requires : goal.put_marks-requires
put_marks-requires c = record { count_in_bounds = omega (arith, c.requires.checked.layered.few, c.note_links.auto); count_in_bounds_2 = search links-short }

pub returns : goal.returns
returns c = output-links _ _ _ _ _ _ c.note_links.ensures _ _ _ c.put_marks.ensures
