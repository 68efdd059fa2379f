use Rattle.subsumption.proofs.Linking.{over-union}
use Rattle.subsumption.proofs.closure.links.over.Goals as goal

pub returns : goal.returns
returns c = over-union _ _ _ _ _ c.union.ensures
