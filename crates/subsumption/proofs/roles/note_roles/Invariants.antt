use Rattle.subsumption.proofs.RoleSetLaws.{SetsTo}
use Rattle.subsumption.proofs.roles.note_roles.Given as goal

abbrev pub invariant-loop-m : goal.invariant-loop-m
invariant-loop-m l = SetsTo l.roles l.into l.m
