use Rattle.numerals.proofs.WriteLaws.{top-row, name-row, some-row, and-row, variable-row, other_row, row_room, wrote-row, wrote_none}
use Rattle.numerals.proofs.printing.put_row.Goals as goal

pub put_bytes-requires : goal.put_bytes-requires
put_bytes-requires c = search (row_room, top-row)

pub returns-then-kind-eq0 : goal.returns-then-kind-eq0
returns-then-kind-eq0 c = search (wrote-row, top-row)

pub put_line-requires : goal.put_line-requires
put_line-requires c = search (row_room, name-row)

pub returns-then-kind-eq1 : goal.returns-then-kind-eq1
returns-then-kind-eq1 c = search (wrote-row, name-row)

pub put_pair-requires : goal.put_pair-requires
put_pair-requires c = search (row_room, some-row)

pub returns-then-kind-eq2 : goal.returns-then-kind-eq2
returns-then-kind-eq2 c = search (wrote-row, some-row)

pub put_pair-requires-then-kind-eq3 : goal.put_pair-requires-then-kind-eq3
put_pair-requires-then-kind-eq3 c = search (row_room, and-row)

pub returns-then-kind-eq3 : goal.returns-then-kind-eq3
returns-then-kind-eq3 c = search (wrote-row, and-row)

pub put_line-requires-then-kind-eq4 : goal.put_line-requires-then-kind-eq4
put_line-requires-then-kind-eq4 c = search (row_room, variable-row)

pub returns-then-kind-eq4 : goal.returns-then-kind-eq4
returns-then-kind-eq4 c = search (wrote-row, variable-row)

pub returns : goal.returns
returns c = search (wrote-row, other_row, wrote_none)
