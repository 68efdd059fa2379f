use Rattle.subsumption.specs.Table.{marked}
use Rattle.countermodel.specs.Countermodel.{is_named}
use Rattle.countermodel.proofs.NotingLaws.{NotedTo}
use Rattle.countermodel.proofs.marks.note_names.Given as goal

abbrev pub invariant-loop-j : goal.invariant-loop-j
invariant-loop-j l = NotedTo 1000 is_named l.concepts (marked l.table) l.i l.names l.j
