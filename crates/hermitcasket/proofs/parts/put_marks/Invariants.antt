use Rattle.numerals.proofs.PieceLaws.{Printed}
use Rattle.hermitcasket.proofs.MarkLines.{marks_left}
use Rattle.hermitcasket.proofs.parts.put_marks.Given as goal

abbrev pub invariant-loop-q : goal.invariant-loop-q
invariant-loop-q l = Printed (marks_left l.link l.i l.role l.marks l.count) l.initial.out 0 l.out l.end l.q
