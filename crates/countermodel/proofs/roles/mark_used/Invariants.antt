use Rattle.countermodel.proofs.UsedLaws.{UsedTo}
use Rattle.countermodel.proofs.roles.mark_used.Given as goal

abbrev pub invariant-loop-r : goal.invariant-loop-r
invariant-loop-r l = UsedTo l.into l.own l.used l.r
