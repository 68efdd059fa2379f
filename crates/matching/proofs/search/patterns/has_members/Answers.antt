use Rattle.std.proofs.Common.{rules, sym, ◌∙◌}
use Rattle.matching.proofs.SearchLaws.Walks.{members-low, members-top, members-and, members-out, members-other}
use Rattle.matching.proofs.search.patterns.has_members.Goals as goal

pub returns-in-Top : goal.returns-in-Top
returns-in-Top c = members-top _ c.requires.numbers _ c.requires.e_bound _ (sym c.node_at.ensures ∙ c.in-Top.is)

pub returns-in-Name : goal.returns-in-Name
returns-in-Name c = members-other _ c.requires.numbers c.args.e c.requires.e_bound _ _ (λ e. search rules) (λ i j e. search rules)

pub is_in-requires : goal.is_in-requires
is_in-requires c = (members-low _ c.requires.numbers _ c.requires.e_bound _ _ (sym c.node_at.ensures ∙ c.in-And.is)).0

pub is_in-requires-then-is_in : goal.is_in-requires-then-is_in
is_in-requires-then-is_in c = (members-low _ c.requires.numbers _ c.requires.e_bound _ _ (sym c.node_at.ensures ∙ c.in-And.is)).1

pub returns-then-is_in : goal.returns-then-is_in
returns-then-is_in c =
    members-and _ c.requires.numbers _ c.requires.e_bound _ _ _ _ _ (sym c.node_at.ensures ∙ c.in-And.is) c.is_in.ensures c.if-is_in.true
    c.is_in-then-is_in.ensures

pub returns-else-is_in : goal.returns-else-is_in
returns-else-is_in c =
    rw c.if-is_in.false
    (members-out _ c.requires.numbers _ c.requires.e_bound _ _ _ _ (sym c.node_at.ensures ∙ c.in-And.is) c.is_in.ensures c.if-is_in.false)
