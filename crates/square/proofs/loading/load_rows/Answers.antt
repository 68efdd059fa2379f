use native.Mathlib.Omega.{arith}
use Rattle.square.proofs.LoadingLaws.{loaded-more}
use Rattle.square.proofs.loading.load_rows.Goals as goal

pub loop-i-preserved : goal.loop-i-preserved
loop-i-preserved c = loaded-more _ _ _ _ _ (omega arith) c.loop-i.invariant c.load_row.ensures
