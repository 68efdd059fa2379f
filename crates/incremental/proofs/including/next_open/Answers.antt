use native.Mathlib.Omega.{arith}
use Rattle.incremental.proofs.SetLaws.{open_more, open-found}
use Prim.Native.Nat.{◌+◌, ◌*◌}
use Rattle.incremental.proofs.including.next_open.Goals as goal

pub returns-then-open-ne0 : goal.returns-then-open-ne0
returns-then-open-ne0 c = open-found _ _ _ _ _ _ c.loop-k.invariant (omega arith) c.if-open-ne0.true (c.type_inv.covered c.loop-k.k).fits (c.type_inv.square (c.args.i * 3 + c.loop-k.k)).fits

pub loop-k-preserved : goal.loop-k-preserved
loop-k-preserved c = open_more _ _ _ _ _ _ c.loop-k.invariant (omega arith) (omega arith)
