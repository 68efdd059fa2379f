use native.Mathlib.Omega.{arith}
use Rattle.subsumption.proofs.MarkLaws.{pairs-none, pairs-more, pairs-done}
use Rattle.subsumption.proofs.counting.count_pairs.Goals as goal

pub loop-j-init : goal.loop-j-init
loop-j-init c = pairs-none _ _

pub overflow_add-pairs : goal.overflow_add-pairs
overflow_add-pairs c = omega (arith, c.loop-j.invariant.few, c.ones_in-pairs.ensures.upper_bound)

pub loop-j-preserved : goal.loop-j-preserved
loop-j-preserved c = pairs-more _ _ _ _ _ (omega arith) c.loop-j.invariant c.ones_in-pairs.ensures.value c.ones_in-pairs.ensures.upper_bound

pub returns : goal.returns
returns c = pairs-done _ _ _ _ c.loop-j.invariant (omega arith)
