use Rattle.matching.proofs.DerivationLaws.Lines.{marks-none, empty-square, empty-seen}
use Rattle.matching.proofs.DerivationLaws.Cells.{square-small}
use mathlib.Core.Path.{sym}
use native.Mathlib.Omega.{arith}
use Rattle.matching.proofs.derivation.check_rules.Goals as goal

pub overflow_mul-size : goal.overflow_mul-size
overflow_mul-size c = omega (arith, square-small _ c.requires.ready.few)

pub slice_bounds-marks-end : goal.slice_bounds-marks-end
slice_bounds-marks-end c = omega (arith, square-small _ c.requires.ready.few)

pub slice_bounds-check_lines-end : goal.slice_bounds-check_lines-end
slice_bounds-check_lines-end c = sym (empty-square _ c.requires.ready.few).long

pub check_lines-requires : goal.check_lines-requires
check_lines-requires c = record { ready = c.requires.ready; marks_of = marks-none _ _ _ (empty-square _ c.requires.ready.few) (λ i j. empty-seen _ i j c.requires.ready.few) }
