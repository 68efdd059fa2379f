use native.Mathlib.Omega.{arith}
use Rattle.square.proofs.TurningLaws.{staged-more, staged_done}
use mathlib.Core.Path.{ap}
use Prim.Native.Nat.{◌+◌}
use Rattle.square.proofs.turning.stage.Goals as goal

pub loop-p-preserved : goal.loop-p-preserved
loop-p-preserved c = staged-more _ _ _ _ c.requires.exchange _ _ _ c.loop-p.invariant (omega arith) _ (ap (λ z. c.loop-p.p + z) (c.requires.exchange.place c.loop-p.p (omega arith)))

pub returns : goal.returns
returns c = staged_done _ _ _ _ c.requires.exchange _ _ _ c.loop-p.invariant (omega arith)
