use mathlib.Core.Path.{sym, ◌∙◌}
use Rattle.matching.proofs.SearchLaws.Sets.{line_low, fit_low}
use Rattle.matching.proofs.SearchLaws.Walks.{linked-first, linked-join, linked-skip, linked-done}
use native.Mathlib.Omega.{arith}
use Rattle.matching.proofs.search.patterns.linked.Goals as goal

pub next_in-e-requires : goal.next_in-e-requires
next_in-e-requires c = record { at_in_bounds = omega (arith, c.fit_at-fits.ensures, fit_low c.args.right c.args.j (omega arith)); from_bound = omega arith }

pub loop-e-init : goal.loop-e-init
loop-e-init c = linked-first _ _ _ _ _ _ c.fit_at-fits.ensures _ c.next_in-e.ensures

pub next_in-e-requires-in-loop-e : goal.next_in-e-requires-in-loop-e
next_in-e-requires-in-loop-e c = record { at_in_bounds = omega (arith, c.fit_at-fits.ensures, fit_low c.args.right c.args.j (omega arith)); from_bound = omega arith }

pub overflow_cast-problem : goal.overflow_cast-problem
overflow_cast-problem c = omega (arith, c.requires.shaped.numbers.inner-low c.loop-e.e (omega arith))

pub is_in-requires : goal.is_in-requires
is_in-requires c = omega (arith, c.requires.shaped.numbers.inner-low c.loop-e.e (omega arith))

pub words_at-requires : goal.words_at-requires
words_at-requires c = omega (arith, c.line_at.ensures, line_low c.args.right c.loop-e.e (omega arith))

pub loop-e-smaller-then-is_in : goal.loop-e-smaller-then-is_in
loop-e-smaller-then-is_in c = omega (arith, c.next_in-e-in-loop-e.ensures.after)

pub loop-e-preserved-then-is_in : goal.loop-e-preserved-then-is_in
loop-e-preserved-then-is_in c = linked-join _ _ _ _ _ _ c.fit_at-fits.ensures _ _ _ (omega arith) c.loop-e.invariant c.next_in-e-in-loop-e.ensures _ _ _ (sym c.is_in.ensures ∙ c.if-is_in.true) c.line_at.ensures c.words_at.ensures c.join-sum.ensures

pub loop-e-smaller : goal.loop-e-smaller
loop-e-smaller c = omega (arith, c.next_in-e-in-loop-e.ensures.after)

pub loop-e-preserved : goal.loop-e-preserved
loop-e-preserved c = linked-skip _ _ _ _ _ _ c.fit_at-fits.ensures _ _ _ (omega arith) c.loop-e.invariant c.next_in-e-in-loop-e.ensures (sym c.is_in.ensures ∙ c.if-is_in.false)

pub returns : goal.returns
returns c = linked-done _ _ _ _ _ _ _ (omega arith) c.loop-e.invariant
