use Rattle.std.proofs.Common.{rules, sym, ◌∙◌}
use Rattle.incremental.proofs.SettlingLaws.{inner-and, inner-var, inner-none}
use Rattle.incremental.proofs.settling.settle_row.Goals as goal

pub returns-in-Top : goal.returns-in-Top
returns-in-Top c = inner-none _ _ _ _ c.requires.square (search rules)

pub returns-in-And : goal.returns-in-And
returns-in-And c = inner-and _ _ _ c.requires.settleable _ c.requires.i_bound _ _ c.flow-a.result _ _ _ _ _ (sym c.node_at.ensures ∙ c.in-And.is) c.flow-a.ensures c.flow-b.ensures

pub returns-in-Variable : goal.returns-in-Variable
returns-in-Variable c = inner-var _ _ _ c.requires.settleable _ c.requires.i_bound _ _ _ _ (sym c.node_at.ensures ∙ c.in-Variable.is) c.spread.ensures
