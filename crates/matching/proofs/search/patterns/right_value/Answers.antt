use Rattle.std.proofs.Common.{rules, sym, ◌∙◌, arith}
use Rattle.matching.proofs.SearchLaws.Walks.{members-low, variable-low}
use Rattle.matching.proofs.SearchLaws.Patterns.{right-by-var, right-by-and, right-by-exists}
use Rattle.matching.proofs.search.patterns.right_value.Goals as goal

pub bounds-choice-k : goal.bounds-choice-k
bounds-choice-k c = variable-low _ c.requires.shaped.numbers _ c.requires.in_bounds.1 _ (sym c.node_at.ensures ∙ c.in-Variable.is)

pub returns-in-Variable : goal.returns-in-Variable
returns-in-Variable c = right-by-var c.args.sets.now c.args.problem.now c.args.values.now c.args.choice c.args.j _ _ (sym c.node_at.ensures ∙ c.in-Variable.is) c.below_all.ensures

pub value_of-a-requires : goal.value_of-a-requires
value_of-a-requires c = record { shaped = c.requires.shaped; in_bounds = (c.requires.in_bounds.0, (members-low _ c.requires.shaped.numbers _ c.requires.in_bounds.1 _ _ (sym c.node_at.ensures ∙ c.in-And.is)).0) }

pub value_of-b-requires : goal.value_of-b-requires
value_of-b-requires c = record { shaped = c.requires.shaped; in_bounds = (c.requires.in_bounds.0, (members-low _ c.requires.shaped.numbers _ c.requires.in_bounds.1 _ _ (sym c.node_at.ensures ∙ c.in-And.is)).1) }

pub returns-in-And : goal.returns-in-And
returns-in-And c = right-by-and c.args.sets.now c.args.problem.now c.args.values.now c.args.choice c.args.j _ _ _ _ _ (sym c.node_at.ensures ∙ c.in-And.is) c.value_of-a.ensures c.value_of-b.ensures c.meet.ensures

pub words_at-own-requires : goal.words_at-own-requires
words_at-own-requires c = omega (arith, c.requires.shaped.numbers.inner-low c.args.j c.requires.in_bounds.1)

pub returns-in_default : goal.returns-in_default
returns-in_default c = right-by-exists c.args.sets.now c.args.problem.now c.args.values.now c.args.choice c.args.j _ (λ k e. search rules) (λ x y e. search rules) _ c.words_at-own.ensures c.linked.ensures
