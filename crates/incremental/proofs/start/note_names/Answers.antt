use Rattle.std.proofs.Common.{rules, sym, ◌∙◌}
use Rattle.incremental.proofs.StartLaws.{names-none, names-skip, names_more}
use Rattle.incremental.proofs.start.note_names.Goals as goal

pub loop-i-init : goal.loop-i-init
loop-i-init c = names-none _ _ c.requires.names_value

pub loop-i-preserved-in_default : goal.loop-i-preserved-in_default
loop-i-preserved-in_default c = names-skip _ _ _ (λ n e. search rules) c.loop-i.invariant

pub loop-i-preserved : goal.loop-i-preserved
loop-i-preserved c = names_more _ _ _ _ _ (sym c.node_at.ensures ∙ c.in-Name.is) c.loop-i.invariant c.insert.ensures
