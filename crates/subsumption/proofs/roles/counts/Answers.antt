use Rattle.subsumption.proofs.RoleSetLaws.{bit-read}
use Rattle.subsumption.proofs.roles.counts.Goals as goal

pub returns : goal.returns
returns c = bit-read _ _ _
