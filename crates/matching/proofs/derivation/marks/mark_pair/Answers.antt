use native.Mathlib.Omega.{arith}
use Rattle.matching.proofs.DerivationLaws.Cells.{cell_room, cell-small}
use Rattle.matching.proofs.derivation.marks.mark_pair.Goals as goal

pub overflow_mul-marks : goal.overflow_mul-marks
overflow_mul-marks c = omega (arith, cell-small _ _ _ _ c.requires.square c.requires.i_lt_count.0 c.requires.i_lt_count.1)

pub overflow_add-marks : goal.overflow_add-marks
overflow_add-marks c = omega (arith, cell-small _ _ _ _ c.requires.square c.requires.i_lt_count.0 c.requires.i_lt_count.1)

pub bounds-marks-i : goal.bounds-marks-i
bounds-marks-i c = cell_room _ _ _ _ c.requires.square c.requires.i_lt_count.0 c.requires.i_lt_count.1
