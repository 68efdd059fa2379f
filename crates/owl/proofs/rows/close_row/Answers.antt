use Rattle.owl.proofs.RowLaws.{full-row, one-row}
use Rattle.owl.proofs.rows.close_row.Goals as goal

pub returns-then-count-ge-CONCEPTS : goal.returns-then-count-ge-CONCEPTS
returns-then-count-ge-CONCEPTS c = search full-row

pub returns : goal.returns
returns c = search one-row
