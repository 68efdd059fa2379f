use Rattle.hermitcasket.proofs.RowLaws.{row-top, row-name, row-existential, row-conjunction, row-variable, row-none}
use Rattle.hermitcasket.proofs.lines.row_line.Goals as goal

pub returns-then-starts_with : goal.returns-then-starts_with
returns-then-starts_with c = search row-top

pub returns-in-Some : goal.returns-in-Some
returns-in-Some c = search row-name

pub returns-in-Some-pair_line : goal.returns-in-Some-pair_line
returns-in-Some-pair_line c = search row-existential

pub returns-in-Some-pair_line-2 : goal.returns-in-Some-pair_line-2
returns-in-Some-pair_line-2 c = search row-conjunction

pub returns-in_err-variable : goal.returns-in_err-variable
returns-in_err-variable c = rw c.from_residual.ensures (search (row-none, c.in_err-variable.was))

pub returns : goal.returns
returns c = search (row-variable, c.in_ok-variable.was)
