use Rattle.incremental.specs.Inner.Links.{Existentials}
use Rattle.incremental.proofs.links.note_existentials.Given as goal

abbrev pub invariant-loop-e : goal.invariant-loop-e
invariant-loop-e l = Existentials l.concepts l.outer l.inners l.roles l.e
