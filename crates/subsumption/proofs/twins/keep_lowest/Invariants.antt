use Rattle.subsumption.proofs.TwinKeys.{LoweredTo}
use Rattle.subsumption.proofs.twins.keep_lowest.Given as goal

abbrev pub invariant-loop-p : goal.invariant-loop-p
invariant-loop-p l = LoweredTo l.firsts l.count l.initial.marks l.marks l.p
