use Rattle.matching.proofs.SearchLaws.Choices.{left_out}
use Rattle.matching.proofs.search.pairs.without_pair.Goals as goal

pub returns : goal.returns
returns c = left_out _ _ _ c.requires.set_len c.requires.k_bound.0 c.requires.k_bound.1 c.requires.q_value
