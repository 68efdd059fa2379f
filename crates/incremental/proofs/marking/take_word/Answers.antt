use Prim.Native.Nat.{◌+◌, ◌*◌, ◌-◌}
use mathlib.Core.Bool.{true}
use native.Mathlib.Omega.{arith}
use lib.Bits.{and_le_r, or_lt, xor_lt}
use lib.Count.{trailing_le}
use Rattle.square.proofs.BitLaws.{rest-less}
use Rattle.incremental.proofs.MarkingLaws.{taking-first, taking-low, taking-more, taking-done}
use Rattle.incremental.proofs.marking.take_word.Goals as goal

pub bounds-square-base : goal.bounds-square-base
bounds-square-base c = omega (arith, c.requires.square.long)

pub loop-rest-init : goal.loop-rest-init
loop-rest-init c = taking-first _ _ _ _ _ c.requires.square (xor_lt 64 _ _ (or_lt 64 _ _ (c.type_inv.square (c.args.base + c.args.x * 3 + c.args.k)).fits (omega arith)) (c.type_inv.square (c.args.base + c.args.x * 3 + c.args.k)).fits)

pub overflow_cast-place : goal.overflow_cast-place
overflow_cast-place c = omega (arith, trailing_le 64 c.loop-rest.rest)

pub overflow_add-k : goal.overflow_add-k
overflow_add-k c = omega (arith, taking-low _ _ _ _ _ _ _ c.args.square.now _ true (omega arith) c.loop-rest.invariant c.loop-rest-test.true)

pub mark-new-requires : goal.mark-new-requires
mark-new-requires c = record { square = c.loop-rest.invariant.adds.square; base = c.requires.base; x_bound = (omega arith, taking-low _ _ _ _ _ _ _ c.args.square.now _ true (omega arith) c.loop-rest.invariant c.loop-rest-test.true) }

pub loop-rest-smaller : goal.loop-rest-smaller
loop-rest-smaller c = rest-less _ (omega arith)

pub loop-rest-preserved : goal.loop-rest-preserved
loop-rest-preserved c = taking-more _ _ _ _ _ _ _ _ _ _ (omega arith) c.loop-rest.invariant c.loop-rest-test.true (omega (arith, and_le_r c.loop-rest.rest (c.loop-rest.rest - 1), c.loop-rest.invariant.small)) c.mark-new.ensures

pub shape_of-square : goal.shape_of-square
shape_of-square c = omega (arith, c.loop-rest.invariant.adds.square.long, c.requires.square.long)

pub returns : goal.returns
returns c = taking-done _ _ _ _ _ _ _ _ c.loop-rest.invariant (omega arith)
