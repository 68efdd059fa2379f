use Rattle.renumbering.proofs.MovingLaws.{IdsTo}
use Rattle.renumbering.proofs.moving.put_ids.Given as goal

abbrev pub invariant-loop-p : goal.invariant-loop-p
invariant-loop-p l = IdsTo l.order l.ids l.initial.out l.out l.p
