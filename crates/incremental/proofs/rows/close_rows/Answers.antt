use native.Mathlib.Omega.{arith}
use Rattle.incremental.proofs.RowsLaws.{rows-first, rows_more, rows-done}
use Rattle.incremental.proofs.rows.close_rows.Goals as goal

pub loop-n-init : goal.loop-n-init
loop-n-init c = rows-first _ _ _ _ c.requires.settleable.few c.requires.square

pub loop-n-preserved : goal.loop-n-preserved
loop-n-preserved c = rows_more _ _ _ _ _ _ _ _ _ c.loop-n.invariant (omega (arith, c.loop-n-test.true)) _ c.proposed-i.ensures c.requires.settleable.few _ _ _ _ _ c.settle_row-a.ensures c.include_row-b.ensures c.insert.ensures

pub returns : goal.returns
returns c = rows-done _ _ _ _ _ _ _ _ _ c.loop-n.invariant (omega (arith, c.loop-n-test.false))
