use Rattle.incremental.specs.Inner.Including.{ChainTo}
use Rattle.incremental.proofs.including.note_chain.Given as goal

abbrev pub invariant-loop-m : goal.invariant-loop-m
invariant-loop-m l = ChainTo l.inclusions l.chain l.m
