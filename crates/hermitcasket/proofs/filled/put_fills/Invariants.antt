use Rattle.subsumption.specs.Inner.Lent.{given}
use Rattle.numerals.proofs.PieceLaws.{Printed}
use Rattle.hermitcasket.proofs.FillLaws.{fills_left}
use Rattle.hermitcasket.proofs.filled.put_fills.Given as goal

abbrev pub invariant-loop-k : goal.invariant-loop-k
invariant-loop-k l =
    Printed (fills_left (given l.tables) l.assignment) l.initial.out l.at l.out l.end l.k
