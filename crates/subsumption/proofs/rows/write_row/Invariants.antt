use Rattle.subsumption.proofs.RowLaws.{RowTo}
use Rattle.subsumption.proofs.rows.write_row.Given as goal

abbrev pub invariant-loop-at : goal.invariant-loop-at
invariant-loop-at l = RowTo l.band l.i l.initial.out l.at l.out
