use Rattle.matching.proofs.SearchLaws.Needs.{kept-met}
use Rattle.matching.proofs.search.needs.with_above.Goals as goal

pub returns : goal.returns
returns c = kept-met _ _ _ _ _ c.join-upper.ensures c.meet.ensures
