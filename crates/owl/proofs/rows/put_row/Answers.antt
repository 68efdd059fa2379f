use native.Mathlib.Omega.{arith}
use lib.ListN.{length-set}
use Rattle.owl.proofs.rows.put_row.Goals as goal

pub bounds-rows-at-2 : goal.bounds-rows-at-2
bounds-rows-at-2 c = simp length-set (omega arith)
