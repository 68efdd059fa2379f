use mathlib.Core.Path.{◌∙◌}
use Rattle.matching.proofs.SearchLaws.Making.Closers.{want-first, asked-more, asked-done}
use native.Mathlib.Omega.{arith}
use Rattle.matching.proofs.search.problem.want_asked.Goals as goal

pub bounds-problem-m : goal.bounds-problem-m
bounds-problem-m c = omega (arith, c.requires.shaped.numbers.long)

pub overflow_cast-problem : goal.overflow_cast-problem
overflow_cast-problem c = omega (arith, c.requires.shaped.numbers.right-low c.args.m c.requires.m_bound.0)

pub insert-requires : goal.insert-requires
insert-requires c = record { y_bound = c.requires.shaped.numbers.right-low c.args.m c.requires.m_bound.0; at_in_bounds = omega (arith, c.requires.m_bound.1) }

pub next_in-j-requires : goal.next_in-j-requires
next_in-j-requires c = record { at_in_bounds = omega arith; from_bound = omega arith }

pub loop-j-init : goal.loop-j-init
loop-j-init c = want-first _ _ _ _ _ c.next_in-j.ensures

pub next_in-j-requires-in-loop-j : goal.next_in-j-requires-in-loop-j
next_in-j-requires-in-loop-j c = record { at_in_bounds = omega arith; from_bound = omega arith }

pub want_inner-requires : goal.want_inner-requires
want_inner-requires c = record { shaped = c.requires.shaped; j_bound = (omega arith, c.loop-j.invariant.grew.long ∙ c.insert.ensures.long ∙ c.requires.m_bound.1) }

pub loop-j-smaller : goal.loop-j-smaller
loop-j-smaller c = omega (arith, c.next_in-j-in-loop-j.ensures.after)

pub loop-j-preserved : goal.loop-j-preserved
loop-j-preserved c = asked-more c.args.sets.now c.args.problem.now _ c.args.m _ _ _ _ c.loop-j.invariant c.next_in-j-in-loop-j.ensures c.want_inner.ensures.grew c.want_inner.ensures.wants_inner

pub shape_of-wanted : goal.shape_of-wanted
shape_of-wanted c = c.loop-j.invariant.grew.long ∙ c.insert.ensures.long

pub returns : goal.returns
returns c = asked-done c.args.sets.now c.args.problem.now _ c.args.m _ _ _ c.requires.m_bound.1 c.insert.ensures (omega arith) c.loop-j.invariant
