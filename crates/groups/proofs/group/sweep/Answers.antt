use mathlib.Core.Path.{refl, ◌∙◌}
use Rattle.groups.specs.Inner.Group.{swept}
use Rattle.groups.proofs.GroupLaws.{swept-meeting, swept-apart}
use Rattle.groups.proofs.group.sweep.Goals as goal
use Rattle.groups.proofs.group.sweep.Goals.{then-reached-set-ne0, else-reached-set-ne0}

pub loop-m-init : goal.loop-m-init
unfolding swept
loop-m-init c = refl

pub loop-m-preserved : goal.loop-m-preserved
loop-m-preserved c =
    elim c.if-reached-set-ne0.branch [
      | then-reached-set-ne0 w ↦ w.reached-is ∙ swept-meeting _ _ _ _ _ c.loop-m.invariant c.set_of-set.ensures w.if-reached-set-ne0.true
      | else-reached-set-ne0 w ↦ w.reached-is ∙ swept-apart _ _ _ _ _ c.loop-m.invariant c.set_of-set.ensures w.if-reached-set-ne0.false
    ]
