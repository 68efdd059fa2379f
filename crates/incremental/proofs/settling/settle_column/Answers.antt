use Rattle.std.proofs.Common.{rules, sym, ◌∙◌}
use Rattle.incremental.proofs.SettlingLaws.{meet-and, meet-var, meet-none}
use Rattle.incremental.proofs.settling.settle_column.Goals as goal

pub returns-in-Top : goal.returns-in-Top
returns-in-Top c = meet-none _ _ _ _ c.requires.square (search rules)

pub returns-in-And : goal.returns-in-And
returns-in-And c = meet-and _ _ _ c.requires.settleable _ c.requires.j_bound _ _ _ _ _ (sym c.node_at.ensures ∙ c.in-And.is) c.meet.ensures

pub returns-in-Variable : goal.returns-in-Variable
returns-in-Variable c = meet-var _ _ _ c.requires.settleable _ c.requires.j_bound _ _ _ _ (sym c.node_at.ensures ∙ c.in-Variable.is) c.gather.ensures
