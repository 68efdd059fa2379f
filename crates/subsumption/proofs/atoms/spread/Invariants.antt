use Rattle.subsumption.proofs.Marks.{Spreading}
use Rattle.subsumption.proofs.atoms.spread.Given as goal

abbrev pub invariant-loop-i : goal.invariant-loop-i
invariant-loop-i l = Spreading l.concepts l.initial.marks l.marks l.i
