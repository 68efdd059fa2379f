use Rattle.subsumption.specs.Inner.Rows.{Banded}
use Rattle.subsumption.proofs.RowLaws.{RowsTo}
use Rattle.subsumption.proofs.rows.write_rows.Given as goal

abbrev pub invariant-loop-i : goal.invariant-loop-i
invariant-loop-i l = RowsTo l.columns l.count l.initial.out l.i l.out × Banded l.columns l.count l.i l.band
