use Rattle.subsumption.proofs.AtomMarking.{standing-marked}
use borrow.Author.Rules.{rules}
use Rattle.subsumption.proofs.atoms.mark_standing.Goals as goal

pub mark_sides-requires : goal.mark_sides-requires
mark_sides-requires c = record { known = search rules; count_bound = c.requires.layered.few }

pub returns : goal.returns
returns c = search standing-marked
