use Rattle.matching.proofs.WithinLaws.{AskedTo}
use Rattle.matching.proofs.within.put_asked.Given as goal

abbrev pub invariant-loop-m : goal.invariant-loop-m
invariant-loop-m l = AskedTo l.wanted l.initial.problem l.problem l.m
