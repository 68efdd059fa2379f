use Rattle.subsumption.specs.Table.{marked}
use Rattle.countermodel.specs.Countermodel.{leads_to}
use Rattle.countermodel.specs.Inner.Show.{ForRoles}
use Rattle.countermodel.proofs.NotingLaws.{NotedTo}
use Rattle.countermodel.proofs.marks.note_links.Given as goal

abbrev pub invariant-loop-j : goal.invariant-loop-j
invariant-loop-j l = ForRoles l.into (λ roles. NotedTo 192 (leads_to roles l.role) l.concepts (marked l.table) l.i l.links l.j)
