use Rattle.std.proofs.Common.{rules, sym, ◌∙◌}
use Rattle.matching.proofs.SearchLaws.Walks.{members-low}
use Rattle.matching.proofs.SearchLaws.Making.Closers.{kept_and, kept-other}
use Rattle.matching.proofs.search.problem.keep.Goals as goal

pub insert-requires-in-And-clause-y_bound : goal.insert-requires-in-And-clause-y_bound
insert-requires-in-And-clause-y_bound c = (members-low _ c.requires.numbers _ c.requires.e_bound.0 _ _ (sym c.node_at.ensures ∙ c.in-And.is)).0

pub insert-requires-in-And-2-clause-y_bound : goal.insert-requires-in-And-2-clause-y_bound
insert-requires-in-And-2-clause-y_bound c = (members-low _ c.requires.numbers _ c.requires.e_bound.0 _ _ (sym c.node_at.ensures ∙ c.in-And.is)).1

pub returns-in-And : goal.returns-in-And
returns-in-And c = kept_and _ _ _ _ _ _ c.insert.ensures _ _ _ _ (sym c.node_at.ensures ∙ c.in-And.is) c.insert-in-And.ensures c.insert-in-And-2.ensures

pub returns-in_default : goal.returns-in_default
returns-in_default c = kept-other _ _ _ _ _ _ c.insert.ensures (λ i j e. search rules)
