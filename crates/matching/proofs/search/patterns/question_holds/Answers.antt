use Rattle.matching.proofs.SearchLaws.Patterns.{tested-right, tested-left, tested-free}
use native.Mathlib.Omega.{arith}
use Rattle.matching.proofs.search.patterns.question_holds.Goals as goal

pub overflow_cast-left : goal.overflow_cast-left
overflow_cast-left c = omega (arith, c.requires.shaped.numbers.left-low c.args.m c.requires.in_bounds.1)

pub overflow_cast-right : goal.overflow_cast-right
overflow_cast-right c = omega (arith, c.requires.shaped.numbers.right-low c.args.m c.requires.in_bounds.1)

pub overflow_add-right-3 : goal.overflow_add-right-3
overflow_add-right-3 c = omega (arith, c.requires.shaped.numbers.right-low c.args.m c.requires.in_bounds.1)

pub offset_bounds-problem-right : goal.offset_bounds-problem-right
offset_bounds-problem-right c = omega (arith, c.requires.shaped.numbers.right-low c.args.m c.requires.in_bounds.1)

pub bounds-problem-right : goal.bounds-problem-right
bounds-problem-right c = omega (arith, c.requires.shaped.numbers.right-low c.args.m c.requires.in_bounds.1)

pub overflow_mul-right-then-problem-right-eq1 : goal.overflow_mul-right-then-problem-right-eq1
overflow_mul-right-then-problem-right-eq1 c = omega (arith, c.requires.shaped.numbers.right-low c.args.m c.requires.in_bounds.1)

pub has-requires : goal.has-requires
has-requires c = record { y_bound = c.requires.shaped.numbers.left-low c.args.m c.requires.in_bounds.1; at_in_bounds = omega (arith, c.requires.shaped.numbers.right-low c.args.m c.requires.in_bounds.1) }

pub returns-then-problem-right-eq1 : goal.returns-then-problem-right-eq1
returns-then-problem-right-eq1 c = tested-right c.args.sets.now c.args.problem.now c.args.choice c.args.m _ _ c.if-problem-right-eq1.true c.make_values.ensures c.has.ensures

pub overflow_add-left-2 : goal.overflow_add-left-2
overflow_add-left-2 c = omega (arith, c.requires.shaped.numbers.left-low c.args.m c.requires.in_bounds.1)

pub offset_bounds-problem-left : goal.offset_bounds-problem-left
offset_bounds-problem-left c = omega (arith, c.requires.shaped.numbers.left-low c.args.m c.requires.in_bounds.1)

pub bounds-problem-left : goal.bounds-problem-left
bounds-problem-left c = omega (arith, c.requires.shaped.numbers.left-low c.args.m c.requires.in_bounds.1)

pub overflow_mul-left-then-problem-left-eq1 : goal.overflow_mul-left-then-problem-left-eq1
overflow_mul-left-then-problem-left-eq1 c = omega (arith, c.requires.shaped.numbers.left-low c.args.m c.requires.in_bounds.1)

pub words_at-requires : goal.words_at-requires
words_at-requires c = omega (arith, c.requires.shaped.numbers.left-low c.args.m c.requires.in_bounds.1)

pub is_in-requires : goal.is_in-requires
is_in-requires c = c.requires.shaped.numbers.right-low c.args.m c.requires.in_bounds.1

pub returns-then-problem-left-eq1 : goal.returns-then-problem-left-eq1
returns-then-problem-left-eq1 c = tested-left c.args.sets.now c.args.problem.now c.args.choice c.args.m _ _ _ _ c.if-problem-right-eq1.false c.if-problem-left-eq1.true c.make_values-then-problem-left-eq1.ensures c.words_at.ensures c.close_up-all.ensures c.is_in.ensures

pub overflow_mul-left-2 : goal.overflow_mul-left-2
overflow_mul-left-2 c = omega (arith, c.requires.shaped.numbers.left-low c.args.m c.requires.in_bounds.1)

pub has-requires-2 : goal.has-requires-2
has-requires-2 c = record { y_bound = c.requires.shaped.numbers.right-low c.args.m c.requires.in_bounds.1; at_in_bounds = omega (arith, c.requires.shaped.numbers.left-low c.args.m c.requires.in_bounds.1) }

pub returns : goal.returns
returns c = tested-free c.args.sets.now c.args.problem.now c.args.choice c.args.m _ c.if-problem-right-eq1.false c.if-problem-left-eq1.false c.has-2.ensures
