use Rattle.std.proofs.Common.{rules, sym, ◌∙◌, arith}
use Rattle.matching.proofs.SearchLaws.Walks.{members-low, variable-low}
use Rattle.matching.proofs.SearchLaws.Patterns.{left-by-var, left-by-and, left-by-exists, valued-in}
use Rattle.matching.proofs.search.patterns.left_value.Goals as goal

pub bounds-choice-k : goal.bounds-choice-k
bounds-choice-k c = variable-low _ c.requires.shaped.numbers _ c.requires.in_bounds.1 _ (sym c.node_at.ensures ∙ c.in-Variable.is)

pub returns-in-Variable : goal.returns-in-Variable
returns-in-Variable c = valued-in _ _ _ _ _ _ _ _ (omega arith) (left-by-var c.args.sets.now c.args.problem.now c.args.values.now c.args.choice c.args.j _ _ (sym c.node_at.ensures ∙ c.in-Variable.is) c.above_some.ensures)

pub value_of-a-requires : goal.value_of-a-requires
value_of-a-requires c = record { shaped = c.requires.shaped; in_bounds = (c.requires.in_bounds.0, (members-low _ c.requires.shaped.numbers _ c.requires.in_bounds.1 _ _ (sym c.node_at.ensures ∙ c.in-And.is)).0) }

pub value_of-b-requires : goal.value_of-b-requires
value_of-b-requires c = record { shaped = c.requires.shaped; in_bounds = (c.requires.in_bounds.0, (members-low _ c.requires.shaped.numbers _ c.requires.in_bounds.1 _ _ (sym c.node_at.ensures ∙ c.in-And.is)).1) }

pub returns-in-And : goal.returns-in-And
returns-in-And c = valued-in _ _ _ _ _ _ _ _ (omega arith) (left-by-and c.args.sets.now c.args.problem.now c.args.values.now c.args.choice c.args.j _ _ _ _ _ (sym c.node_at.ensures ∙ c.in-And.is) c.value_of-a.ensures c.value_of-b.ensures c.join.ensures)

pub words_at-inner-requires : goal.words_at-inner-requires
words_at-inner-requires c = omega (arith, c.requires.shaped.numbers.inner-low c.args.j c.requires.in_bounds.1)

pub returns-in_default : goal.returns-in_default
returns-in_default c = left-by-exists c.args.sets.now c.args.problem.now c.args.values.now c.args.choice c.args.j _ (λ k e. search rules) (λ x y e. search rules) _ _ _ (omega arith) c.words_at-inner.ensures c.close_up-own.ensures c.linked.ensures
