use Rattle.subsumption.proofs.AtomMarking.{NarrowedTo}
use Rattle.subsumption.proofs.atoms.keep_atomic.Given as goal

abbrev pub invariant-loop-p : goal.invariant-loop-p
invariant-loop-p l = NarrowedTo l.concepts l.initial.marks l.marks l.p
