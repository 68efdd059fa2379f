use Rattle.matching.proofs.SearchLaws.Making.Numbers.{HeldTo}
use Rattle.matching.proofs.search.problem.note_held.Given as goal

abbrev pub invariant-loop-i : goal.invariant-loop-i
invariant-loop-i l = HeldTo l.mark-items l.initial.problem l.i l.problem
