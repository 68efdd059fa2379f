use native.Mathlib.Omega.{arith}
use mathlib.Core.Path.{sym}
use lib.Seq.{length-take-le}
use Rattle.matching.proofs.SearchLaws.Making.Lines.{zeros, few-variables, few-concepts, table-written, lines_of}
use Rattle.matching.proofs.search.problem.note_lines.Goals as goal

pub slice_bounds-nothing-end : goal.slice_bounds-nothing-end
slice_bounds-nothing-end c = few-variables _ c.requires.variables_value

pub slice_bounds-write_table-end : goal.slice_bounds-write_table-end
slice_bounds-write_table-end c = sym (length-take-le _ zeros (few-variables _ c.requires.variables_value))

pub load-requires : goal.load-requires
load-requires c = record { square_len = c.requires.square_len; count_bound = (few-concepts _ c.requires.variables_value, omega (arith, few-concepts _ c.requires.variables_value, (table-written _ _ _ _ c.requires.variables_value (omega arith) c.write_table.ensures).size)) }

pub shape_of-square : goal.shape_of-square
shape_of-square c = omega (arith, c.load.ensures.whole.long, c.requires.square_len)

pub returns : goal.returns
returns c = lines_of _ _ _ _ c.requires.variables_value (table-written _ _ _ _ c.requires.variables_value (omega arith) c.write_table.ensures) c.load.ensures
