use Rattle.square.proofs.TurningLaws.{WriteTo}
use Rattle.square.proofs.turning.write_block.Given as goal

abbrev pub invariant-loop-k : goal.invariant-loop-k
invariant-loop-k l = WriteTo l.block l.a l.b l.initial.square l.k l.square
