use Rattle.subsumption.specs.Inner.Names.{Seen}
use Rattle.subsumption.proofs.Linking.{FirstsTo}
use Rattle.subsumption.proofs.closure.names.note_firsts.Given as goal

abbrev pub invariant-loop-j : goal.invariant-loop-j
invariant-loop-j l = FirstsTo l.concepts l.j l.firsts × Seen l.concepts l.j l.seen
