use native.Mathlib.Omega.{arith}
use lib.ListN.{length-set}
use Rattle.countermodel.proofs.PuttingLaws.{put-short, put_four}
use Rattle.countermodel.proofs.rows.put_row.Goals as goal

pub returns-then-out-end : goal.returns-then-out-end
returns-then-out-end c = put-short _ _ _ _ _ _ (omega arith)

pub bounds-out-at-2 : goal.bounds-out-at-2
bounds-out-at-2 c = simp length-set (omega arith)

pub bounds-out-at-3 : goal.bounds-out-at-3
bounds-out-at-3 c = simp length-set (omega arith)

pub bounds-out-at-4 : goal.bounds-out-at-4
bounds-out-at-4 c = simp length-set (omega arith)

pub shape_of-out : goal.shape_of-out
shape_of-out c = simp length-set

pub returns : goal.returns
returns c = put_four _ _ _ _ _ _
