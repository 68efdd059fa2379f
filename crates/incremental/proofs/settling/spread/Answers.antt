use native.Mathlib.Omega.{arith}
use Rattle.incremental.proofs.SettlingLaws.{spreading-skip, spreading-turn, spreading-done}
use Rattle.incremental.proofs.settling.spread.Goals as goal

pub loop-q-preserved-then-picked-eq0 : goal.loop-q-preserved-then-picked-eq0
loop-q-preserved-then-picked-eq0 c = spreading-skip _ _ _ _ _ _ _ (omega arith) c.loop-q.invariant c.if-picked-eq0.true

pub loop-q-preserved : goal.loop-q-preserved
loop-q-preserved c = spreading-turn _ _ _ _ _ _ _ (omega arith) c.loop-q.invariant _ _ c.if-picked-eq0.false c.flow-new.ensures

pub returns : goal.returns
returns c = spreading-done _ _ _ _ _ _ _ c.loop-q.invariant (omega arith)
