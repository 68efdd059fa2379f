use native.Mathlib.Omega.{arith}
use Prim.Native.Nat.{◌+◌, ◌*◌}
use Rattle.incremental.proofs.including.member.Goals as goal

pub overflow_cast-inner : goal.overflow_cast-inner
overflow_cast-inner c = omega (arith, c.type_inv.concepts (c.args.i * 3 + c.args.which))
