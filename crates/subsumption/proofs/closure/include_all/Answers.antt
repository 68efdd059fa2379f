use Prim.Native.Nat.{◌+◌, ◌*◌}
use native.Mathlib.Omega.{arith}
use Rattle.subsumption.proofs.Including.{included-first, included-more, included-done}
use Rattle.subsumption.proofs.closure.include_all.Goals as goal

pub loop-m-init : goal.loop-m-init
loop-m-init c = included-first _ _

pub overflow_cast-left : goal.overflow_cast-left
overflow_cast-left c = omega (arith, c.type_inv.inclusions (c.loop-m.m * 2))

pub overflow_cast-right : goal.overflow_cast-right
overflow_cast-right c = omega (arith, c.type_inv.inclusions (c.loop-m.m * 2 + 1))

pub flow-new-requires : goal.flow-new-requires
flow-new-requires c = record { from_bound = (c.requires.low_pairs.left c.loop-m.m (omega arith), c.requires.low_pairs.right c.loop-m.m (omega arith)) }

pub loop-m-preserved : goal.loop-m-preserved
loop-m-preserved c = included-more _ c.loop-m.invariant (omega arith) c.flow-new.ensures

pub returns : goal.returns
returns c = included-done _ c.loop-m.invariant (omega arith)
