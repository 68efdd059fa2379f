use native.Mathlib.Omega.{arith}
use native.Mathlib.Nat.{mul-le-mul_right}
use Rattle.allowance.specs.Find.{counted_reply}
use Rattle.batches.proofs.FindLaws.{finds-at}
use Rattle.batches.proofs.find.find_at.Goals as goal

pub overflow_mul-k : goal.overflow_mul-k
overflow_mul-k c = omega (arith, mul-le-mul_right {m = c.args.k} {n = 8} c.args.tables.variables (omega arith))

pub returns : goal.returns
returns c = finds-at _ _ _ _ _ _ _ (counted_reply c.find_all_permitted.result) c.min-from.ensures c.min-to.ensures c.find_all_permitted.auto.out c.find_all_permitted.ensures
