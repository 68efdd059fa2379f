use native.Mathlib.Omega.{arith}
use Rattle.square.proofs.TurningLaws.{write-more}
use Rattle.square.proofs.turning.write_block.Goals as goal

pub loop-k-preserved : goal.loop-k-preserved
loop-k-preserved c = write-more _ _ _ _ _ _ (omega arith) (omega arith) (omega arith) c.requires.square_len c.loop-k.invariant
