use Rattle.incremental.specs.Inner.Start.{NamesTo}
use Rattle.incremental.proofs.start.note_names.Given as goal

abbrev pub invariant-loop-i : goal.invariant-loop-i
invariant-loop-i l = NamesTo l.concepts l.names l.i
