use Rattle.subsumption.proofs.RoleSetLaws.{joined}
use Rattle.subsumption.proofs.roles.join.Goals as goal

pub returns : goal.returns
returns c = joined _ _ _ c.told-into c.requires.from_bound.0 c.requires.from_bound.1
