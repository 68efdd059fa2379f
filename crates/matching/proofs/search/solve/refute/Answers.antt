use native.Mathlib.Omega.{arith}
use mathlib.Core.Path.{refl}
use borrow.Author.Tests.{eq-eqb, ne_eqb}
use Rattle.matching.proofs.SearchLaws.Solve.{refuted-right, refuted-left}
use Rattle.matching.proofs.FindLaws.{all-zeros}
use Rattle.matching.proofs.search.solve.refute.Goals as goal

pub overflow_mul-side : goal.overflow_mul-side
overflow_mul-side c = omega (arith, c.requires.shaped.numbers.few)

pub overflow_add-side : goal.overflow_add-side
overflow_add-side c = omega (arith, c.requires.shaped.numbers.few)

pub overflow_add-side-2 : goal.overflow_add-side-2
overflow_add-side-2 c = omega (arith, c.requires.shaped.numbers.few)

pub offset_bounds-problem-m : goal.offset_bounds-problem-m
offset_bounds-problem-m c = omega (arith, c.requires.shaped.numbers.few)

pub bounds-problem-m : goal.bounds-problem-m
bounds-problem-m c = omega (arith, c.requires.shaped.numbers.few, c.requires.shaped.numbers.long)

pub overflow_cast-side : goal.overflow_cast-side
overflow_cast-side c = omega (arith, c.requires.shaped.numbers.right-low c.args.m (omega (arith, c.requires.shaped.numbers.few)))

pub overflow_add-side-3 : goal.overflow_add-side-3
overflow_add-side-3 c = omega (arith, c.requires.shaped.numbers.right-low c.args.m (omega (arith, c.requires.shaped.numbers.few)))

pub offset_bounds-problem-side : goal.offset_bounds-problem-side
offset_bounds-problem-side c = omega (arith, c.requires.shaped.numbers.right-low c.args.m (omega (arith, c.requires.shaped.numbers.few)))

pub bounds-problem-side : goal.bounds-problem-side
bounds-problem-side c = omega (arith, c.requires.shaped.numbers.long, c.requires.shaped.numbers.right-low c.args.m (omega (arith, c.requires.shaped.numbers.few)))

pub widen-core-requires : goal.widen-core-requires
widen-core-requires c = record { shaped = c.requires.shaped; scratch_len = (c.requires.scratch_len.0, omega (arith, c.requires.shaped.numbers.few)); choice_len = (c.requires.full_len.1, refl) }

pub returns-then-problem-side-eq1 : goal.returns-then-problem-side-eq1
returns-then-problem-side-eq1 c = record { low_len = (c.widen-core.ensures.mixed.long, c.requires.full_len.0); refuted_by = refuted-right _ _ _ _ _ _ all-zeros refl _ (eq-eqb _ _ c.if-problem-side-eq1.true) c.widen-core.ensures.mixed c.widen-core.ensures.still_fails }

pub widen-rest-requires : goal.widen-rest-requires
widen-rest-requires c = record { shaped = c.requires.shaped; scratch_len = (c.requires.scratch_len.0, omega (arith, c.requires.shaped.numbers.few)); choice_len = (c.requires.full_len.1, c.requires.full_len.0) }

pub returns : goal.returns
returns c = record { low_len = (refl, c.widen-rest.ensures.mixed.long); refuted_by = refuted-left _ _ _ _ _ _ all-zeros refl _ (ne_eqb _ _ c.if-problem-side-eq1.false) c.widen-rest.ensures.mixed c.widen-rest.ensures.still_fails }
