use mathlib.Core.Path.{refl, ◌∙◌}
use mathlib.Core.Bool.{true, false}
use Rattle.matching.proofs.SearchLaws.Patterns.{valued-first, valued-more, valued-done, valued-at, valued-in}
use native.Mathlib.Omega.{arith}
use Rattle.matching.proofs.search.patterns.make_values.Goals as goal

pub next_in-j-requires : goal.next_in-j-requires
next_in-j-requires c = record { at_in_bounds = omega arith; from_bound = omega arith }

pub loop-j-init : goal.loop-j-init
loop-j-init c = (refl, valued-first _ _ _ _ _ _ _ c.requires.in_bounds.0 c.next_in-j.ensures)

pub next_in-j-requires-in-loop-j : goal.next_in-j-requires-in-loop-j
next_in-j-requires-in-loop-j c = record { at_in_bounds = omega arith; from_bound = omega arith }

pub right_value-a-requires : goal.right_value-a-requires
right_value-a-requires c = record { shaped = c.requires.shaped; in_bounds = (c.loop-j.invariant.1.long, omega arith) }

pub put_words-requires : goal.put_words-requires
put_words-requires c = omega (arith, c.loop-j.invariant.1.long)

pub loop-j-smaller-then-right : goal.loop-j-smaller-then-right
loop-j-smaller-then-right c = omega (arith, c.next_in-j-in-loop-j.ensures.after)

pub loop-j-preserved-then-right : goal.loop-j-preserved-then-right
loop-j-preserved-then-right c = (c.put_words.ensures.long ∙ c.loop-j.invariant.0, valued-more c.args.sets.now c.args.problem.now c.args.choice c.args.m c.args.right _ _ _ _ _ (omega arith) c.loop-j.invariant.1 (valued-at _ _ _ _ _ _ true _ _ c.if-right.true (valued-in _ _ _ _ _ _ _ _ (omega arith) c.right_value-a.ensures)) c.put_words.ensures c.next_in-j-in-loop-j.ensures)

pub left_value-b-requires : goal.left_value-b-requires
left_value-b-requires c = record { shaped = c.requires.shaped; in_bounds = (c.loop-j.invariant.1.long, omega arith, c.requires.in_bounds.1) }

pub put_words-requires-in-loop-j : goal.put_words-requires-in-loop-j
put_words-requires-in-loop-j c = omega (arith, c.loop-j.invariant.1.long)

pub loop-j-smaller : goal.loop-j-smaller
loop-j-smaller c = omega (arith, c.next_in-j-in-loop-j.ensures.after)

pub loop-j-preserved : goal.loop-j-preserved
loop-j-preserved c = (c.put_words-in-loop-j.ensures.long ∙ c.loop-j.invariant.0, valued-more c.args.sets.now c.args.problem.now c.args.choice c.args.m c.args.right _ _ _ _ _ (omega arith) c.loop-j.invariant.1 (valued-at _ _ _ _ _ _ false _ _ c.if-right.false c.left_value-b.ensures) c.put_words-in-loop-j.ensures c.next_in-j-in-loop-j.ensures)

pub shape_of-values : goal.shape_of-values
shape_of-values c = c.loop-j.invariant.0

pub returns : goal.returns
returns c = valued-done _ _ _ _ _ _ _ (omega arith) c.loop-j.invariant.1
