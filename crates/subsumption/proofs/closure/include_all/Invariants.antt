use Rattle.subsumption.proofs.Including.{Included}
use Rattle.subsumption.proofs.closure.include_all.Given as goal

abbrev pub invariant-loop-m : goal.invariant-loop-m
invariant-loop-m l = Included l.inclusions l.initial.columns l.columns l.changed l.m
