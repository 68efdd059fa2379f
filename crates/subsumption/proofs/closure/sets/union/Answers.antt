use Rattle.subsumption.proofs.SetLaws.{unites}
use Rattle.subsumption.proofs.closure.sets.union.Goals as goal

pub returns : goal.returns
returns c = unites _ _ _ _ _ _ _ c.join-one.ensures c.join-two.ensures c.join.ensures
