use Rattle.incremental.specs.Inner.Rising.{ColumnGains}
use Rattle.incremental.proofs.rising.include_column.Given as goal

abbrev pub invariant-loop-m : goal.invariant-loop-m
invariant-loop-m l = ColumnGains l.count l.inclusions l.initial.square l.square l.changed
