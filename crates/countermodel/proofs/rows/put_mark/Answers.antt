use Rattle.countermodel.proofs.PuttingLaws.{row-name, row-link}
use Rattle.countermodel.proofs.rows.put_mark.Goals as goal

pub shape_of-out-then-kind-eq0 : goal.shape_of-out-then-kind-eq0
shape_of-out-then-kind-eq0 c = c.put_row.ensures.size

pub returns-then-kind-eq0 : goal.returns-then-kind-eq0
returns-then-kind-eq0 c = row-name _ _ _ _ _ _ _ _ c.if-kind-eq0.true c.put_row.ensures

pub shape_of-out : goal.shape_of-out
shape_of-out c = c.put_row-2.ensures.size

pub returns : goal.returns
returns c = row-link _ _ _ _ _ _ _ _ c.if-kind-eq0.false c.put_row-2.ensures
