use Rattle.std.proofs.Common.{sym, ◌∙◌}
use Rattle.subsumption.proofs.Settling.{ascend-top, ascend-name, ascend-and, ascend-var}
use Rattle.subsumption.proofs.closure.settling.ascend.Goals as goal

pub returns-in-Top : goal.returns-in-Top
returns-in-Top c =
    ascend-top _ _ _ _ c.requires.settleable c.requires.firsts _ c.requires.j_bound _ _ _ (sym c.node_at.ensures ∙ c.in-Top.is) c.fill.ensures

pub returns-in-Name : goal.returns-in-Name
returns-in-Name c =
    ascend-name _ _ _ _ c.requires.settleable c.requires.firsts _ c.requires.j_bound _ _ _ _ _ _ (sym c.node_at.ensures ∙ c.in-Name.is) c.flow-a.ensures
    c.flow-b.ensures

pub returns-in-And : goal.returns-in-And
returns-in-And c =
    ascend-and _ _ _ _ c.requires.settleable c.requires.firsts _ c.requires.j_bound _ _ _ _ _ (sym c.node_at.ensures ∙ c.in-And.is) c.meet.ensures

pub returns-in-Variable : goal.returns-in-Variable
returns-in-Variable c =
    ascend-var _ _ _ _ c.requires.settleable c.requires.firsts _ c.requires.j_bound _ _ _ _ (sym c.node_at.ensures ∙ c.in-Variable.is) c.gather.ensures
