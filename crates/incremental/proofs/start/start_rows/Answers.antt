use native.Mathlib.Omega.{arith}
use Rattle.incremental.proofs.StartLaws.{begun_more, begun-done}
use Rattle.incremental.proofs.start.start_rows.Goals as goal

pub loop-i-preserved : goal.loop-i-preserved
loop-i-preserved c = begun_more _ _ c.requires.nameable.few _ _ _ (omega arith) c.loop-i.invariant c.start_row.ensures

pub returns : goal.returns
returns c = begun-done _ _ c.requires.nameable.few _ _ (omega arith) c.loop-i.invariant
