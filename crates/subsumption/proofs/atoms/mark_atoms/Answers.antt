use Rattle.subsumption.proofs.AtomMarking.{atoms-marked}
use Rattle.subsumption.proofs.atoms.mark_atoms.Goals as goal

pub mark_standing-requires : goal.mark_standing-requires
mark_standing-requires c = record { layered = c.requires.layered; known = c.requires.known; known_2 = c.requires.known_2; variable_sets = c.requires.variable_sets; marks_value = c.requires.marks_value }

pub note_twins-requires : goal.note_twins-requires
note_twins-requires c = record { layered = c.requires.layered; by_index = c.requires.by_index }

pub keep_lowest-requires : goal.keep_lowest-requires
keep_lowest-requires c = record { count_bound = c.requires.layered.few; by_index = (λ i h. (c.note_twins.ensures.each i h).low) }

pub returns : goal.returns
returns c = atoms-marked _ _ _ _ _ _ c.mark_standing.ensures c.note_twins.ensures c.keep_lowest.ensures
