use Rattle.countermodel.proofs.PuttingLaws.{MarksTo}
use Rattle.countermodel.proofs.rows.put_marks.Given as goal

abbrev pub invariant-loop-q : goal.invariant-loop-q
invariant-loop-q l = MarksTo l.kind l.element l.role l.marks l.initial.out l.at l.q l.end l.out
