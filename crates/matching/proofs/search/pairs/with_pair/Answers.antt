use Rattle.matching.proofs.SearchLaws.Choices.{taken}
use Rattle.matching.proofs.search.pairs.with_pair.Goals as goal

pub returns : goal.returns
returns c = taken _ _ _ c.requires.set_len c.requires.k_bound.0 c.requires.k_bound.1
