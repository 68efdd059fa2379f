use Rattle.subsumption.specs.Tables.{pairs_of}
use Rattle.subsumption.specs.Inner.Atoms.{in_ground_right}
use Rattle.subsumption.proofs.Marks.{MarkedTo}
use Rattle.subsumption.proofs.atoms.mark_ground_rights.Given as goal

abbrev pub invariant-loop-m : goal.invariant-loop-m
invariant-loop-m l = MarkedTo (in_ground_right l.questions l.sets) (pairs_of l.questions) l.initial.marks l.marks l.m
