use Rattle.subsumption.proofs.Marks.{SetsTo}
use Rattle.subsumption.proofs.variables.write_sets.Given as goal

abbrev pub invariant-loop-i : goal.invariant-loop-i
invariant-loop-i l = SetsTo l.concepts l.sets l.i
