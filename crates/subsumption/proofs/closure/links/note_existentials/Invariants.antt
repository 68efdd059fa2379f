use Rattle.subsumption.specs.Inner.Links.{Existentials}
use Rattle.subsumption.specs.Tables.{count_of}
use Prim.Native.Nat.{◌≤◌}
use Rattle.subsumption.proofs.closure.links.note_existentials.Given as goal

abbrev pub invariant-loop-e : goal.invariant-loop-e
invariant-loop-e l = (l.e ≤ count_of l.concepts) × Existentials l.concepts l.outer l.inners l.lines l.e
