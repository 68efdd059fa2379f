use Rattle.incremental.proofs.SetLaws.{OpenTo}
use Rattle.incremental.proofs.including.next_open.Given as goal

abbrev pub invariant-loop-k : goal.invariant-loop-k
invariant-loop-k l = OpenTo l.square l.covered l.i l.from l.k l.low
