use mathlib.Core.Path.{sym, ap, ◌∙◌}
use native.Mathlib.Omega.{arith}
use Rattle.groups.specs.Inner.Group.{belongs}
use Rattle.groups.proofs.GroupLaws.{gathered_none, gathered-past, gathered-more}
use Rattle.groups.proofs.group.gather.Goals as goal
use Rattle.groups.proofs.group.gather.Goals.{then-is_among, else-is_among}

pub loop-n-init : goal.loop-n-init
loop-n-init c = gathered_none _ _

pub loop-n-preserved : goal.loop-n-preserved
loop-n-preserved c =
    elim c.if-is_among.branch [
      | then-is_among w ↦ rw w.group-is (gathered-more _ _ _ _ c.loop-n.invariant (omega arith) (sym w.if-is_among.true ∙ c.is_among.ensures ∙ ap (belongs _) c.set_of-set.ensures))
      | else-is_among w ↦ rw w.group-is (gathered-past _ _ _ _ c.loop-n.invariant (sym w.if-is_among.false ∙ c.is_among.ensures ∙ ap (belongs _) c.set_of-set.ensures))
    ]
