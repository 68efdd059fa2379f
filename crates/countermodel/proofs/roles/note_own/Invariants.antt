use Rattle.subsumption.specs.Table.{marked}
use Rattle.countermodel.specs.Inner.Show.{is_of}
use Rattle.countermodel.proofs.NotingLaws.{NotedTo}
use Rattle.countermodel.proofs.roles.note_own.Given as goal

abbrev pub invariant-loop-j : goal.invariant-loop-j
invariant-loop-j l = NotedTo 100 is_of l.concepts (marked l.table) l.i l.own l.j
