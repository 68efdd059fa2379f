use native.Mathlib.Omega.{arith}
use Prim.Native.Nat.{◌+◌, ◌*◌}
use mathlib.Core.Bool.{true, false}
use Rattle.matching.proofs.SearchLaws.Making.Filling.{fit-other, fit-held, fit-counts}
use Rattle.matching.proofs.search.problem.is_fitting.Goals as goal

pub returns-then-problem-e-ne2 : goal.returns-then-problem-e-ne2
returns-then-problem-e-ne2 c = fit-other _ _ _ _ _ c.if-problem-e-ne2.true

pub returns-then-problem-e-eq1 : goal.returns-then-problem-e-eq1
returns-then-problem-e-eq1 c = fit-held _ _ _ _ _ c.if-problem-e-eq1.true

pub overflow_cast-own : goal.overflow_cast-own
overflow_cast-own c = omega (arith, c.type_inv.problem (c.args.j * 3 + 1))

pub overflow_cast-free : goal.overflow_cast-free
overflow_cast-free c = omega (arith, c.type_inv.problem (c.args.e * 3 + 1))

pub counts-requires : goal.counts-requires
counts-requires c = record { r_bound = (c.requires.readable.low-roles _ c.requires.j_lt_count.1 c.if-problem-e-ne2.false, c.requires.readable.low-roles _ c.requires.j_lt_count.0 c.requires.j_lt_count.2) }

pub returns-then-right : goal.returns-then-right
returns-then-right c = fit-counts _ _ _ _ _ c.if-problem-e-ne2.false c.if-problem-e-eq1.false true _ c.if-right.true c.counts.ensures

pub counts-requires-2 : goal.counts-requires-2
counts-requires-2 c = record { r_bound = (c.requires.readable.low-roles _ c.requires.j_lt_count.0 c.requires.j_lt_count.2, c.requires.readable.low-roles _ c.requires.j_lt_count.1 c.if-problem-e-ne2.false) }

pub returns : goal.returns
returns c = fit-counts _ _ _ _ _ c.if-problem-e-ne2.false c.if-problem-e-eq1.false false _ c.if-right.false c.counts-2.ensures
