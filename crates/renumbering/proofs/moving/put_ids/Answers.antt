use native.Mathlib.Omega.{arith}
use Rattle.renumbering.proofs.MovingLaws.{ids-none, ids_more}
use Rattle.renumbering.proofs.moving.put_ids.Goals as goal

pub loop-p-init : goal.loop-p-init
loop-p-init c = ids-none _ _ _

pub loop-p-preserved : goal.loop-p-preserved
loop-p-preserved c = ids_more _ _ _ _ _ _ c.loop-p.invariant (omega arith) c.requires.ids_in_bounds c.moved_field.ensures
