use Rattle.subsumption.proofs.RoleSetLaws.{StartedTo}
use Rattle.subsumption.proofs.roles.start.Given as goal

abbrev pub invariant-loop-s : goal.invariant-loop-s
invariant-loop-s l = StartedTo l.into l.s
