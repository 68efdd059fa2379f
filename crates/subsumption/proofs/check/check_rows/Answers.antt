use mathlib.Core.Path.{◌∙◌}
use native.Mathlib.Omega.{arith}
use Rattle.subsumption.specs.Check.{malformed_fault}
use Rattle.subsumption.proofs.Scans.{scan-none, scan-more, scan-found, scan-done}
use Rattle.subsumption.proofs.Shapes.{row-malformed}
use Rattle.subsumption.proofs.check.check_rows.Goals as goal

pub loop-i-init : goal.loop-i-init
loop-i-init c = scan-none _ _ _

pub returns-then-is_malformed : goal.returns-then-is_malformed
unfolding malformed_fault
returns-then-is_malformed c =
    scan-found _ _ _ _ c.loop-i.invariant (omega arith)
    (row-malformed _ _ _ _ _ c.row_at-row.ensures c.is_malformed.ensures ∙ c.if-is_malformed.true)

pub loop-i-preserved : goal.loop-i-preserved
loop-i-preserved c =
    scan-more _ _ _ _ c.loop-i.invariant (omega arith)
    (row-malformed _ _ _ _ _ c.row_at-row.ensures c.is_malformed.ensures ∙ c.if-is_malformed.false)

pub returns : goal.returns
unfolding malformed_fault
returns c = scan-done _ _ _ _ c.loop-i.invariant (omega arith)
