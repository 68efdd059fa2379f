use Rattle.matching.proofs.SearchLaws.Making.Closers.{again-less, keep-first, keep-again, keep-more, keep-less, keep-done}
use mathlib.Core.Path.{◌∙◌}
use native.Mathlib.Omega.{arith}
use Rattle.matching.proofs.search.problem.keep_all.Goals as goal

pub loop-from-init : goal.loop-from-init
loop-from-init c = keep-first _ _ _ _ _ c.requires.by_index

pub next_new-e-requires : goal.next_new-e-requires
next_new-e-requires c = record { shaped = record { sets-long = c.loop-from.invariant.long ∙ c.requires.shaped.sets-long; numbers = c.requires.shaped.numbers }; count_bound = (c.requires.count_bound.0, c.loop-from.invariant.low, c.loop-from.invariant.grew.long ∙ c.requires.count_bound.1); at_bound = c.requires.at_bound.0 }

pub keep-requires : goal.keep-requires
keep-requires c = record { numbers = c.requires.shaped.numbers; e_bound = (omega (arith, c.requires.count_bound.0), c.loop-from.invariant.grew.long ∙ c.requires.count_bound.1); at_in_bounds = omega (arith, c.loop-from.invariant.long, c.requires.shaped.sets-long, c.requires.at_bound.0) }

pub loop-from-smaller-then-e-count : goal.loop-from-smaller-then-e-count
loop-from-smaller-then-e-count c = keep-less _ _ _ _ _ _ _ _ _ c.requires.count_bound.0 c.loop-from.invariant c.next_new-e.ensures _ _ (omega arith) c.keep.ensures

pub loop-from-preserved-then-e-count : goal.loop-from-preserved-then-e-count
loop-from-preserved-then-e-count c = keep-more _ _ _ _ _ _ _ _ _ c.requires.count_bound.0 c.loop-from.invariant c.next_new-e.ensures _ _ (omega arith) c.keep.ensures

pub shape_of-sets-then-from-eq0 : goal.shape_of-sets-then-from-eq0
shape_of-sets-then-from-eq0 c = c.loop-from.invariant.long

pub shape_of-wanted-then-from-eq0 : goal.shape_of-wanted-then-from-eq0
shape_of-wanted-then-from-eq0 c = c.loop-from.invariant.grew.long

pub returns-then-from-eq0 : goal.returns-then-from-eq0
returns-then-from-eq0 c = keep-done _ _ _ _ _ _ _ _ _ c.requires.count_bound.0 c.loop-from.invariant c.next_new-e.ensures (omega arith) c.if-from-eq0.true

pub loop-from-smaller : goal.loop-from-smaller
loop-from-smaller c = again-less _ _ _ c.if-from-eq0.false

pub loop-from-preserved : goal.loop-from-preserved
loop-from-preserved c = keep-again _ _ _ _ _ _ _ _ c.loop-from.invariant
