use native.Mathlib.Omega.{arith}
use Rattle.matching.proofs.WithinLaws.{copied_none, copied_more, copied_all}
use Rattle.matching.proofs.within.write_choice.Goals as goal

pub loop-k-init : goal.loop-k-init
loop-k-init c = (omega arith, copied_none _ _)

pub loop-k-preserved : goal.loop-k-preserved
loop-k-preserved c = (omega arith, copied_more _ _ _ _ (omega arith) c.loop-k.invariant.1)

pub shape_of-out : goal.shape_of-out
shape_of-out c = c.loop-k.invariant.1.size

pub returns : goal.returns
returns c = copied_all _ _ _ _ _ c.loop-k.invariant.0 (omega arith) c.loop-k.invariant.1
