use native.Mathlib.Omega.{arith}
use Rattle.incremental.proofs.ToldLaws.{told-ragged, told-even}
use Rattle.subsumption.proofs.Scans.{scan-more, scan-found, scan-done}
use mathlib.Core.Path.{sym, ◌∙◌}
use Rattle.incremental.proofs.told.check_told.Goals as goal

pub returns-then-told-ne0 : goal.returns-then-told-ne0
returns-then-told-ne0 c = told-ragged _ _ _ c.if-told-ne0.true

pub returns-then-is_bad : goal.returns-then-is_bad
returns-then-is_bad c = told-even _ _ _ _ c.loop-m.invariant.0 (scan-found _ _ _ _ c.loop-m.invariant.1 (omega arith) (sym c.is_bad.ensures ∙ c.if-is_bad.true))

pub loop-m-preserved : goal.loop-m-preserved
loop-m-preserved c = (c.loop-m.invariant.0, scan-more _ _ _ _ c.loop-m.invariant.1 (omega arith) (sym c.is_bad.ensures ∙ c.if-is_bad.false))

pub returns : goal.returns
returns c = told-even _ _ _ _ c.loop-m.invariant.0 (scan-done _ _ _ _ c.loop-m.invariant.1 (omega arith))
