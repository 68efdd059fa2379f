use native.Mathlib.Omega.{arith}
use Rattle.incremental.proofs.LinkLaws.{joining-first, joining-low, joining-more, joining-done}
use Rattle.square.proofs.BitLaws.{rest-less}
use lib.Count.{trailing_le}
use lib.Bits.{and_le_r}
use Prim.Native.Nat.{◌-◌}
use Rattle.incremental.proofs.links.join.Goals as goal

pub loop-rest-init : goal.loop-rest-init
loop-rest-init c = joining-first _ _ _ _ _ _ (omega arith)

pub overflow_cast-at : goal.overflow_cast-at
overflow_cast-at c = omega (arith, trailing_le 64 c.loop-rest.rest)

pub overflow_add-at : goal.overflow_add-at
overflow_add-at c = omega (arith, joining-low _ _ _ _ _ _ _ _ _ _ c.loop-rest.invariant c.loop-rest-test.true)

pub overflow_mul-at : goal.overflow_mul-at
overflow_mul-at c = omega (arith, joining-low _ _ _ _ _ _ _ _ _ _ c.loop-rest.invariant c.loop-rest-test.true)

pub offset_bounds-sets-at : goal.offset_bounds-sets-at
offset_bounds-sets-at c = omega (arith, joining-low _ _ _ _ _ _ _ _ _ _ c.loop-rest.invariant c.loop-rest-test.true)

pub bounds-sets-at : goal.bounds-sets-at
bounds-sets-at c = omega (arith, joining-low _ _ _ _ _ _ _ _ _ _ c.loop-rest.invariant c.loop-rest-test.true)

pub overflow_add-second : goal.overflow_add-second
overflow_add-second c = omega (arith, joining-low _ _ _ _ _ _ _ _ _ _ c.loop-rest.invariant c.loop-rest-test.true)

pub offset_bounds-sets-at-in-loop-rest : goal.offset_bounds-sets-at-in-loop-rest
offset_bounds-sets-at-in-loop-rest c = omega (arith, joining-low _ _ _ _ _ _ _ _ _ _ c.loop-rest.invariant c.loop-rest-test.true)

pub bounds-sets-at-in-loop-rest : goal.bounds-sets-at-in-loop-rest
bounds-sets-at-in-loop-rest c = omega (arith, joining-low _ _ _ _ _ _ _ _ _ _ c.loop-rest.invariant c.loop-rest-test.true)

pub overflow_add-third : goal.overflow_add-third
overflow_add-third c = omega (arith, joining-low _ _ _ _ _ _ _ _ _ _ c.loop-rest.invariant c.loop-rest-test.true)

pub offset_bounds-sets-at-in-loop-rest-2 : goal.offset_bounds-sets-at-in-loop-rest-2
offset_bounds-sets-at-in-loop-rest-2 c = omega (arith, joining-low _ _ _ _ _ _ _ _ _ _ c.loop-rest.invariant c.loop-rest-test.true)

pub bounds-sets-at-in-loop-rest-2 : goal.bounds-sets-at-in-loop-rest-2
bounds-sets-at-in-loop-rest-2 c = omega (arith, joining-low _ _ _ _ _ _ _ _ _ _ c.loop-rest.invariant c.loop-rest-test.true)

pub loop-rest-smaller : goal.loop-rest-smaller
loop-rest-smaller c = rest-less _ (omega arith)

pub loop-rest-preserved : goal.loop-rest-preserved
loop-rest-preserved c = joining-more _ _ _ _ _ _ _ _ _ _ c.loop-rest.invariant c.loop-rest-test.true (omega (arith, and_le_r c.loop-rest.rest (c.loop-rest.rest - 1), c.loop-rest.invariant.small))

pub returns : goal.returns
returns c = joining-done _ _ _ _ _ _ _ _ _ _ c.loop-rest.invariant (omega arith)
