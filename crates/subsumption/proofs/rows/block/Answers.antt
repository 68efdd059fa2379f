use native.Mathlib.Omega.{arith}
use Rattle.subsumption.proofs.Blocks.{block_none, block-skip, block_more, block-done}
use Rattle.subsumption.proofs.rows.block.Goals as goal

pub loop-b-init : goal.loop-b-init
loop-b-init c = block_none _ _ _ _

pub loop-b-preserved-then-count-j : goal.loop-b-preserved-then-count-j
loop-b-preserved-then-count-j c = block-skip _ _ _ _ _ _ c.loop-b.invariant (omega arith) (omega arith)

pub loop-b-preserved : goal.loop-b-preserved
loop-b-preserved c = block_more _ _ _ _ _ _ c.loop-b.invariant (omega arith) (omega arith) (omega arith)

pub returns : goal.returns
returns c = block-done _ _ _ _ _ _ c.loop-b.invariant (omega arith)
