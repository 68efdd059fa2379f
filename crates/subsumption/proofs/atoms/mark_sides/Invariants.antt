use Rattle.subsumption.specs.Tables.{pairs_of}
use Rattle.subsumption.specs.Inner.Atoms.{in_pair}
use Rattle.subsumption.proofs.Marks.{MarkedTo}
use Rattle.subsumption.proofs.atoms.mark_sides.Given as goal

abbrev pub invariant-loop-m : goal.invariant-loop-m
invariant-loop-m l = MarkedTo (in_pair l.pairs) (pairs_of l.pairs) l.initial.marks l.marks l.m
