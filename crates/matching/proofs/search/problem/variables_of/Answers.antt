use native.Mathlib.Omega.{arith}
use Prim.Native.Nat.{◌+◌, ◌*◌}
use Rattle.matching.proofs.search.problem.variables_of.Goals as goal

pub overflow_cast-a : goal.overflow_cast-a
overflow_cast-a c = omega (arith, c.type_inv.problem (c.args.i * 3 + 1))

pub overflow_cast-b : goal.overflow_cast-b
overflow_cast-b c = omega (arith, c.type_inv.problem (c.args.i * 3 + 2))

pub overflow_cast-result : goal.overflow_cast-result
overflow_cast-result c = omega (arith, c.if-a-lt8.true)

pub overflow_shl-result : goal.overflow_shl-result
overflow_shl-result c = omega (arith, c.if-a-lt8.true)

pub offset_bounds-sets-a : goal.offset_bounds-sets-a
offset_bounds-sets-a c = omega (arith, c.if-a-ge-CONCEPTS.false)

pub bounds-sets-a : goal.bounds-sets-a
bounds-sets-a c = omega (arith, c.if-a-ge-CONCEPTS.false, c.requires.1)

pub offset_bounds-sets-b : goal.offset_bounds-sets-b
offset_bounds-sets-b c = omega (arith, c.if-b-ge-CONCEPTS.false)

pub bounds-sets-b : goal.bounds-sets-b
bounds-sets-b c = omega (arith, c.if-b-ge-CONCEPTS.false, c.requires.1)

pub offset_bounds-sets-b-then-kind-eq-EXISTENTIAL : goal.offset_bounds-sets-b-then-kind-eq-EXISTENTIAL
offset_bounds-sets-b-then-kind-eq-EXISTENTIAL c = omega (arith, c.if-b-ge-CONCEPTS.false)

pub bounds-sets-b-then-kind-eq-EXISTENTIAL : goal.bounds-sets-b-then-kind-eq-EXISTENTIAL
bounds-sets-b-then-kind-eq-EXISTENTIAL c = omega (arith, c.if-b-ge-CONCEPTS.false, c.requires.1)
