use Rattle.incremental.proofs.LinkLaws.{by-role}
use Rattle.incremental.proofs.links.of_role.Goals as goal

pub returns : goal.returns
returns c = by-role _ _ _ _ _ c.join-some.ensures c.join.ensures
