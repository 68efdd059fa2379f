use mathlib.Core.Path.{sym}
use native.Mathlib.Omega.{arith}
use Rattle.matching.proofs.DerivationLaws.Cells.{square-small}
use Rattle.matching.proofs.WriterLaws.Steps.{blank-marks}
use Rattle.matching.proofs.WriterLaws.Writing.{lines-written}
use Rattle.matching.proofs.writer.put_lines.Goals as goal

pub overflow_mul-size : goal.overflow_mul-size
overflow_mul-size c = omega (arith, square-small _ c.requires.grounds.ready.few)

pub slice_bounds-marks-end : goal.slice_bounds-marks-end
slice_bounds-marks-end c = omega (arith, square-small _ c.requires.grounds.ready.few)

pub slice_bounds-write_lines-end : goal.slice_bounds-write_lines-end
slice_bounds-write_lines-end c = sym (blank-marks _ c.requires.grounds.ready.few).square.long

pub write_lines-requires : goal.write_lines-requires
write_lines-requires c = record { grounds = c.requires.grounds; asked = c.requires.asked; blank = blank-marks _ c.requires.grounds.ready.few; concepts_in_bounds = c.requires.concepts_in_bounds }

pub returns : goal.returns
returns c = lines-written _ _ _ _ _ _ _ _ _ _ _ c.requires.grounds c.requires.concepts_in_bounds c.write_lines.ensures.written_to c.write_lines.ensures.rest_kept
