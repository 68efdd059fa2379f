use native.Mathlib.Omega.{arith}
use Rattle.incremental.proofs.IncludingLaws.{left-first, left-more, left-done}
use Prim.Native.Nat.{◌+◌, ◌*◌}
use Rattle.incremental.proofs.including.include_left.Goals as goal

pub bounds-chain-l : goal.bounds-chain-l
bounds-chain-l c = omega (arith, c.requires.chain.long)

pub overflow_cast-m : goal.overflow_cast-m
overflow_cast-m c = omega (arith, c.type_inv.chain c.args.l)

pub loop-m-init : goal.loop-m-init
loop-m-init c = left-first _ _ _ c.requires.pairs _ c.requires.i_lt_count.0 _ _ c.requires.l_value _ _ c.requires.square c.requires.covered_len (c.requires.chain.first c.args.l (omega arith))

pub overflow_cast-right : goal.overflow_cast-right
overflow_cast-right c = omega (arith, c.type_inv.inclusions (c.loop-m.m * 2 + 1))

pub flow-new-requires : goal.flow-new-requires
flow-new-requires c = record { square = c.loop-m.invariant.passed.square; from_bound = (omega (arith, c.requires.pairs.right c.loop-m.m (omega arith), c.requires.pairs.low), omega (arith, c.requires.pairs.low)) }

pub cover-requires : goal.cover-requires
cover-requires c = record { square_len = c.flow-new.ensures.square.long; done_len = c.requires.done_len; covered_len = c.loop-m.invariant.long; k_bound = (omega (arith, c.requires.pairs.right c.loop-m.m (omega arith), c.requires.pairs.low), omega (arith, c.requires.pairs.low)) }

pub overflow_add-m : goal.overflow_add-m
overflow_add-m c = omega (arith, c.requires.pairs.few)

pub bounds-chain-m : goal.bounds-chain-m
bounds-chain-m c = omega (arith, c.requires.chain.long, c.requires.pairs.few)

pub overflow_cast-m-in-loop-m : goal.overflow_cast-m-in-loop-m
overflow_cast-m-in-loop-m c = omega (arith, c.type_inv.chain (192 + c.loop-m.m))

pub loop-m-smaller : goal.loop-m-smaller
loop-m-smaller c = omega (arith, (c.requires.chain.next c.loop-m.m (omega arith) (omega arith)).low)

pub loop-m-preserved : goal.loop-m-preserved
loop-m-preserved c = left-more _ _ _ c.requires.pairs _ c.requires.i_lt_count.0 _ _ c.requires.l_value _ _ _ _ _ _ _ _ _ c.loop-m.invariant (omega arith) c.flow-new.ensures c.cover.ensures (c.requires.chain.next c.loop-m.m (omega arith) (omega arith))

pub shape_of-square : goal.shape_of-square
shape_of-square c = omega (arith, c.loop-m.invariant.passed.square.long, c.requires.square.long)

pub shape_of-covered : goal.shape_of-covered
shape_of-covered c = omega (arith, c.loop-m.invariant.long, c.requires.covered_len)

pub returns : goal.returns
returns c = record { include_pass = left-done _ _ _ c.requires.pairs _ c.requires.i_lt_count.0 _ _ c.requires.l_value _ _ _ _ _ c.loop-m.invariant (omega arith); covered_len_2 = c.loop-m.invariant.long }
