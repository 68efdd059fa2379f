use Rattle.square.proofs.TurningLaws.{ReadTo}
use Rattle.square.proofs.turning.read_block.Given as goal

abbrev pub invariant-loop-k : goal.invariant-loop-k
invariant-loop-k l = ReadTo l.square l.a l.b l.k l.block
