use Rattle.incremental.proofs.ByteLaws.{AddedTo}
use Rattle.incremental.proofs.bytes.add_word.Given as goal

abbrev pub invariant-loop-m : goal.invariant-loop-m
invariant-loop-m l = AddedTo l.word l.at l.initial.table l.m l.table
