use Rattle.std.proofs.Common.{rules, arith, sym, ◌∙◌}
use Rattle.incremental.proofs.LinkLaws.{existentials-none, existentials-skip, existentials-more}
use Rattle.incremental.proofs.links.note_existentials.Goals as goal

pub loop-e-init : goal.loop-e-init
loop-e-init c = existentials-none _ _ _ _ c.requires.outer_value c.requires.inners_value c.requires.roles_value

pub loop-e-preserved-in_default : goal.loop-e-preserved-in_default
loop-e-preserved-in_default c = existentials-skip _ _ _ _ _ (λ r x e. search rules) c.loop-e.invariant

pub loop-e-preserved : goal.loop-e-preserved
loop-e-preserved c =
    existentials-more _ _ _ _ _ _ _ _ _ _ c.loop-e.invariant (sym c.node_at.ensures ∙ c.in-Exists.is) (omega (arith, c.requires.inner.few))
    c.insert.ensures c.insert-in-loop-e.ensures c.insert-in-loop-e-2.ensures
