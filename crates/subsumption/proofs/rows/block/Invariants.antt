use Rattle.subsumption.proofs.Blocks.{BlockTo}
use Rattle.subsumption.proofs.rows.block.Given as goal

abbrev pub invariant-loop-b : goal.invariant-loop-b
invariant-loop-b l = BlockTo l.columns l.count l.m l.a l.b l.word
