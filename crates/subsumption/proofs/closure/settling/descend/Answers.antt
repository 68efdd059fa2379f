use Rattle.std.proofs.Common.{rules, sym, ◌∙◌}
use Rattle.subsumption.proofs.Settling.{descend-other, descend-and, descend-var}
use Rattle.subsumption.proofs.closure.settling.descend.Goals as goal

pub returns-in-Top : goal.returns-in-Top
returns-in-Top c = descend-other _ _ _ c.requires.settleable _ c.requires.j_bound _ _ _ (search rules) c.mark-own.ensures

pub returns-in-And : goal.returns-in-And
returns-in-And c =
    descend-and _ _ _ c.requires.settleable _ c.requires.j_bound _ _ _ _ _ _ _ _ _ (sym c.node_at.ensures ∙ c.in-And.is) c.mark-own.ensures
    c.flow-a.ensures c.flow-b.ensures

pub returns-in-Variable : goal.returns-in-Variable
returns-in-Variable c =
    descend-var _ _ _ c.requires.settleable _ c.requires.j_bound _ _ _ _ _ _ (sym c.node_at.ensures ∙ c.in-Variable.is) c.mark-own.ensures
    c.spread-a.ensures
