use Rattle.numerals.proofs.PieceLaws.{Printed}
use Rattle.hermitcasket.proofs.FillLaws.{ids_left}
use Rattle.hermitcasket.proofs.print.put_ids.Given as goal

abbrev pub invariant-loop-i : goal.invariant-loop-i
invariant-loop-i l = Printed (ids_left l.ids) l.initial.out l.at l.out l.end l.i
