use Rattle.square.proofs.SetLaws.{line-three}
use Rattle.matching.proofs.search.sets.words_at.Goals as goal

pub returns : goal.returns
returns c = λ y l. line-three _ _ y l
