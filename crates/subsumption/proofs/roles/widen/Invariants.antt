use Rattle.subsumption.proofs.RoleSetLaws.{WidenedTo}
use Rattle.subsumption.proofs.roles.widen.Given as goal

abbrev pub invariant-loop-s : goal.invariant-loop-s
invariant-loop-s l = WidenedTo l.initial.into l.into l.narrow l.wide l.s
