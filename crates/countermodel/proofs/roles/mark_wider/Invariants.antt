use Rattle.countermodel.proofs.UsedLaws.{WidenedTo}
use Rattle.countermodel.proofs.roles.mark_wider.Given as goal

abbrev pub invariant-loop-s : goal.invariant-loop-s
invariant-loop-s l = WidenedTo l.into l.r l.initial.used l.used l.s
