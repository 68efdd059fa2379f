use Rattle.numerals.proofs.PieceLaws.{Printed}
use Rattle.hermitcasket_owl.proofs.CardLaws.{rows_left}
use Rattle.hermitcasket_owl.proofs.card.put_rows.Given as goal

abbrev pub invariant-loop-i : goal.invariant-loop-i
invariant-loop-i l = Printed (rows_left l.concepts) l.initial.out l.at l.out l.end l.i
