use Rattle.matching.proofs.SearchLaws.Sets.{and-three}
use Rattle.matching.proofs.search.sets.meet.Goals as goal

pub returns : goal.returns
returns c = λ i l. and-three _ _ _ _ _ _ i l
