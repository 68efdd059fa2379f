use Rattle.matching.proofs.SearchLaws.Sets.{or-three}
use Rattle.subsumption.proofs.Bits.{or-grows}
use Rattle.matching.proofs.search.sets.join.Goals as goal

pub returns : goal.returns
returns c = record { bits = λ i l. or-three _ _ _ _ _ _ i l; grown = record { first = or-grows _ _; second = or-grows _ _; third = or-grows _ _ } }
