use native.Mathlib.Omega.{arith}
use lib.Count.{ones-le}
use Rattle.subsumption.proofs.MarkLaws.{ones-all, shifted-pos, ones-part, part-few}
use Rattle.subsumption.proofs.counting.ones_below.Goals as goal

pub overflow_cast-result : goal.overflow_cast-result
overflow_cast-result c = omega (arith, ones-le 64 c.args.word (omega arith))

pub returns-then-n-ge64 : goal.returns-then-n-ge64
returns-then-n-ge64 c = record { value = ones-all _ _ (omega arith) c.if-n-ge64.true; upper_bound = ones-le 64 c.args.word (omega arith) }

pub nonzero_rem-result : goal.nonzero_rem-result
nonzero_rem-result c = shifted-pos _ (omega arith)

pub overflow_cast-result-2 : goal.overflow_cast-result-2
overflow_cast-result-2 c = omega (arith, part-few c.args.word c.args.n (omega arith))

pub returns : goal.returns
returns c = record { value = ones-part _ _ (omega arith); upper_bound = part-few _ _ (omega arith) }
