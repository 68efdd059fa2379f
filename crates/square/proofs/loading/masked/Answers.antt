use native.Mathlib.Omega.{arith}
use Rattle.square.proofs.LoadingLaws.{masked-all, masked-none, masked-some}
use Rattle.subsumption.proofs.MarkLaws.{shifted-pos}
use mathlib.Core.Path.{refl}
use Prim.Native.Nat.{◌-◌, ◌*◌}
use Rattle.square.proofs.loading.masked.Goals as goal

pub returns-then-from-count : goal.returns-then-from-count
returns-then-from-count c = masked-all _ _ _ (omega arith)

pub returns-then-count-from : goal.returns-then-count-from
returns-then-count-from c = masked-none _ _ _ (omega arith)

pub nonzero_rem-result : goal.nonzero_rem-result
nonzero_rem-result c = omega (arith, shifted-pos (c.args.count - c.args.k * 64) (omega arith))

pub returns : goal.returns
returns c = masked-some _ _ _ _ (omega arith) (omega arith) refl
