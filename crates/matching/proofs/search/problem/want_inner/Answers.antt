use Rattle.matching.proofs.SearchLaws.Making.Closers.{want-first, inner-more, inner-done}
use native.Mathlib.Omega.{arith}
use Rattle.matching.proofs.search.problem.want_inner.Goals as goal

pub next_in-e-requires : goal.next_in-e-requires
next_in-e-requires c = record { at_in_bounds = omega arith; from_bound = omega arith }

pub loop-e-init : goal.loop-e-init
loop-e-init c = want-first _ _ _ _ _ c.next_in-e.ensures

pub next_in-e-requires-in-loop-e : goal.next_in-e-requires-in-loop-e
next_in-e-requires-in-loop-e c = record { at_in_bounds = omega arith; from_bound = omega arith }

pub bounds-problem-f : goal.bounds-problem-f
bounds-problem-f c = omega (arith, c.requires.shaped.numbers.long)

pub overflow_cast-problem : goal.overflow_cast-problem
overflow_cast-problem c = omega (arith, c.requires.shaped.numbers.inner-low c.loop-e.e (omega arith))

pub insert-requires : goal.insert-requires
insert-requires c = record { y_bound = c.requires.shaped.numbers.inner-low _ (omega arith); at_in_bounds = omega (arith, c.requires.j_bound.1, c.loop-e.invariant.grew.long) }

pub loop-e-smaller : goal.loop-e-smaller
loop-e-smaller c = omega (arith, c.next_in-e-in-loop-e.ensures.after)

pub loop-e-preserved : goal.loop-e-preserved
loop-e-preserved c = inner-more _ c.args.problem.now _ c.args.j _ _ _ _ c.loop-e.invariant c.next_in-e-in-loop-e.ensures c.insert.ensures

pub shape_of-wanted : goal.shape_of-wanted
shape_of-wanted c = c.loop-e.invariant.grew.long

pub returns : goal.returns
returns c = record { grew = c.loop-e.invariant.grew; wants_inner = inner-done _ c.args.problem.now _ c.args.j _ _ (omega arith) c.loop-e.invariant }
