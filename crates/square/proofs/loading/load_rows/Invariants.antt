use Rattle.square.proofs.LoadingLaws.{RowsLoadedTo}
use Rattle.square.proofs.loading.load_rows.Given as goal

abbrev pub invariant-loop-i : goal.invariant-loop-i
invariant-loop-i l = RowsLoadedTo l.table l.count l.i l.square
