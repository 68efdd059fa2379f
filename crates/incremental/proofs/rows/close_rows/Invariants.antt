use Rattle.subsumption.specs.Inner.Settling.{choose_from}
use Rattle.incremental.proofs.RowsLaws.{RowsTo}
use Rattle.incremental.proofs.rows.close_rows.Given as goal

abbrev pub invariant-loop-n : goal.invariant-loop-n
invariant-loop-n l = RowsTo l.concepts l.inclusions (choose_from l.atoms l.choices) l.initial.square l.n l.done l.hint l.square l.changed
