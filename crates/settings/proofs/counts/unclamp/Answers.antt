use native.Mathlib.Omega.{arith}
use Rattle.settings.proofs.CountLaws.{unclamped-around}
use Rattle.settings.proofs.counts.unclamp.Goals as goal

pub loop-k-preserved-then-high-k : goal.loop-k-preserved-then-high-k
loop-k-preserved-then-high-k c = unclamped-around _ _ _ _ _ _ _ _ _ (omega arith) c.loop-k.invariant c.if-high-k.true
