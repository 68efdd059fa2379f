use mathlib.Core.Path.{refl}
use native.Mathlib.Omega.{arith}
use Rattle.subsumption.proofs.Blocks.{banded-first, banded-next}
use Rattle.subsumption.proofs.RowLaws.{rows-first, rows_more, rows-done}
use Rattle.subsumption.proofs.rows.write_rows.Goals as goal

pub loop-i-init : goal.loop-i-init
loop-i-init c = (rows-first _ _ _, banded-first _ _ _ refl)

pub renew_band-requires : goal.renew_band-requires
renew_band-requires c = record { i_bound = omega arith; banded = c.loop-i.invariant.1 }

pub write_row-requires : goal.write_row-requires
write_row-requires c = record { i_bound = (omega arith, omega (arith, c.loop-i.invariant.0.size, c.requires.count_bound.1)) }

pub loop-i-preserved : goal.loop-i-preserved
loop-i-preserved c = (rows_more _ _ _ _ _ _ _ c.loop-i.invariant.0 (omega arith) c.renew_band.ensures c.write_row.ensures, banded-next _ _ _ _ c.renew_band.ensures)

pub shape_of-out : goal.shape_of-out
shape_of-out c = c.loop-i.invariant.0.size

pub returns : goal.returns
returns c = rows-done _ _ _ _ _ c.loop-i.invariant.0 (omega arith)
