use native.Mathlib.Omega.{arith}
use Rattle.square.proofs.TurningLaws.{turned_more, turned-done}
use Rattle.square.proofs.turning.turn.Goals as goal

pub loop-n-preserved : goal.loop-n-preserved
loop-n-preserved c = (c.transpose.ensures.long, turned_more _ _ _ _ _ _ c.loop-n.invariant.1 (omega arith) c.read_block.ensures c.transpose.ensures c.write_block.ensures)

pub returns : goal.returns
returns c = turned-done _ _ _ (omega arith) c.loop-n.invariant.1
