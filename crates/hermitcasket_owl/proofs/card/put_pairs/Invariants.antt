use Rattle.numerals.proofs.PieceLaws.{Printed}
use Rattle.hermitcasket_owl.proofs.CardLaws.{pairs_left}
use Rattle.hermitcasket_owl.proofs.card.put_pairs.Given as goal

abbrev pub invariant-loop-i : goal.invariant-loop-i
invariant-loop-i l = Printed (pairs_left l.inclusions) l.initial.out l.at l.out l.end l.i
