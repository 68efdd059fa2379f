use native.Mathlib.Omega.{arith}
use mathlib.Core.Path.{refl}
use Rattle.matching.specs.Inner.Derivation.{seen}
use Rattle.matching.proofs.DerivationLaws.Cells.{cell_room, cell-small}
use Rattle.matching.proofs.derivation.marks.has_mark.Goals as goal

pub overflow_mul-result : goal.overflow_mul-result
overflow_mul-result c = omega (arith, cell-small _ _ _ _ c.requires.square c.requires.i_lt_count.0 c.requires.i_lt_count.1)

pub overflow_add-result : goal.overflow_add-result
overflow_add-result c = omega (arith, cell-small _ _ _ _ c.requires.square c.requires.i_lt_count.0 c.requires.i_lt_count.1)

pub bounds-marks-i : goal.bounds-marks-i
bounds-marks-i c = cell_room _ _ _ _ c.requires.square c.requires.i_lt_count.0 c.requires.i_lt_count.1

pub returns : goal.returns
unfolding seen
returns c = refl
