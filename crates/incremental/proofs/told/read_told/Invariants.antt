use Rattle.incremental.specs.Inner.Told.{ToldTo}
use Rattle.incremental.proofs.told.read_told.Given as goal

abbrev pub invariant-loop-m : goal.invariant-loop-m
invariant-loop-m l = ToldTo l.atoms l.told l.m l.choices
