use Rattle.groups.specs.Inner.Group.{sweeps}
use Rattle.groups.proofs.GroupLaws.{sweeps-next}
use Rattle.groups.proofs.group.reach.Goals as goal

pub loop-init : goal.loop-init
unfolding sweeps
loop-init c = c.set_of-reached.ensures

pub loop-preserved : goal.loop-preserved
loop-preserved c = sweeps-next _ _ _ _ _ _ c.loop.invariant c.sweep-more.ensures
