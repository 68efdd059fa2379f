use native.Mathlib.Omega.{arith}
use Rattle.subsumption.proofs.RowLaws.{row_first, row_more, row_done, start_is}
use Rattle.subsumption.proofs.rows.write_row.Goals as goal

pub loop-at-init : goal.loop-at-init
loop-at-init c = row_first _ _ _

pub overflow_add-out : goal.overflow_add-out
overflow_add-out c = omega (arith, start_is c.args.i c.row_start-start.result c.row_start-start.ensures)

pub bounds-out-start : goal.bounds-out-start
bounds-out-start c = omega (arith, start_is c.args.i c.row_start-start.result c.row_start-start.ensures, c.loop-at.invariant.size)

pub loop-at-preserved : goal.loop-at-preserved
loop-at-preserved c = row_more _ _ _ _ _ _ c.loop-at.invariant (omega arith) c.requires.i_bound.1 c.row_start-start.ensures

pub shape_of-out : goal.shape_of-out
shape_of-out c = c.loop-at.invariant.size

pub returns : goal.returns
returns c = row_done _ _ _ _ _ c.loop-at.invariant (omega arith)
