use Rattle.incremental.proofs.StartLaws.{BegunTo}
use Rattle.incremental.proofs.start.start_rows.Given as goal

abbrev pub invariant-loop-i : goal.invariant-loop-i
invariant-loop-i l = BegunTo l.concepts l.initial.square l.i l.square
