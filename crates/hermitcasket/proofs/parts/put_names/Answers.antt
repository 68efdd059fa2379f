use native.Mathlib.Omega.{arith}
use Rattle.hermitcasket.proofs.ShownLaws.{names-room, wrote-names}
use Rattle.hermitcasket.proofs.parts.put_names.Goals as goal

pub put_marks-requires : goal.put_marks-requires
put_marks-requires c = record { count_in_bounds = omega (arith, c.note_names.ensures.long); count_in_bounds_2 = search names-room }

pub returns : goal.returns
returns c = search wrote-names
