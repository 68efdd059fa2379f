use Rattle.renumbering.proofs.BackLaws.{BackTo}
use Rattle.renumbering.proofs.order.invert.Given as goal

abbrev pub invariant-loop-i : goal.invariant-loop-i
invariant-loop-i l = BackTo l.order l.back l.i
