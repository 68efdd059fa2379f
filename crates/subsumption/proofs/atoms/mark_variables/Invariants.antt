use Rattle.subsumption.proofs.Marks.{VariablesTo}
use Rattle.subsumption.proofs.atoms.mark_variables.Given as goal

abbrev pub invariant-loop-i : goal.invariant-loop-i
invariant-loop-i l = VariablesTo l.concepts l.marks l.i
