use Rattle.std.proofs.Common.{sym, ◌∙◌, arith, rules}
use Rattle.subsumption.proofs.Linking.{existentials-none, existentials-skip, existentials-more}
use Rattle.subsumption.proofs.closure.links.note_existentials.Goals as goal

pub loop-e-init : goal.loop-e-init
loop-e-init c = (omega arith, existentials-none _ _ _ _ c.requires.outer_value c.requires.inners_value c.requires.lines_value)

pub loop-e-preserved-in_default : goal.loop-e-preserved-in_default
loop-e-preserved-in_default c = (omega arith, existentials-skip _ _ _ _ _ (λ r x e. search rules) c.loop-e.invariant.1)

pub loop-e-preserved : goal.loop-e-preserved
loop-e-preserved c = (omega arith, existentials-more _ _ _ _ _ _ _ _ _ _ c.loop-e.invariant.1 (sym c.node_at.ensures ∙ c.in-Exists.is) c.insert.ensures c.insert-in-loop-e.ensures c.insert-in-loop-e-2.ensures)
