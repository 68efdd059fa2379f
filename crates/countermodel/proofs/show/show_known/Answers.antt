use native.Mathlib.Omega.{arith}
use Rattle.countermodel.proofs.ShowingLaws.{laid-short, laid_done}
use Rattle.countermodel.proofs.show.show_known.Goals as goal

pub returns-then-out-wanted : goal.returns-then-out-wanted
returns-then-out-wanted c = laid-short _ _ _ _ _ c.put_rows-wanted.ensures (omega arith)

pub shape_of-out : goal.shape_of-out
shape_of-out c = c.put_rows.ensures.size

pub returns : goal.returns
returns c = laid_done _ _ _ _ _ c.put_rows-wanted.ensures _ _ (omega arith) c.put_rows.ensures
