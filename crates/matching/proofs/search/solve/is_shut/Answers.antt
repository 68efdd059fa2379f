use Rattle.matching.proofs.SearchLaws.Solve.{shutting}
use Rattle.matching.proofs.search.solve.is_shut.Goals as goal

pub returns : goal.returns
returns c = shutting _ _ _ _ _ _ c.is_within.ensures c.is_within-2.ensures
