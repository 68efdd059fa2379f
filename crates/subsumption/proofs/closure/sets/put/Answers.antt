use Prim.Native.Nat.{◌+◌, ◌*◌}
use native.Mathlib.Omega.{arith}
use lib.ListN.{length-set, set}
use Rattle.subsumption.proofs.SetLaws.{puts}
use Rattle.subsumption.proofs.closure.sets.put.Goals as goal

pub bounds-sets-at-2 : goal.bounds-sets-at-2
bounds-sets-at-2 c = omega (arith, length-set c.args.sets.now (c.args.to * 3) c.args.first)

pub bounds-sets-at-3 : goal.bounds-sets-at-3
bounds-sets-at-3 c = omega (arith, length-set c.args.sets.now (c.args.to * 3) c.args.first, length-set (set c.args.sets.now (c.args.to * 3) c.args.first) (c.args.to * 3 + 1) c.args.second)

pub returns : goal.returns
returns c = puts _ _ _ _ _ (omega arith)
