use mathlib.Core.Path.{◌∙◌, sym}
use native.Mathlib.Omega.{arith}
use Rattle.subsumption.proofs.Scans.{scan-none, scan-more, scan-found, scan-done}
use Rattle.countermodel.specs.Membership.{rows_fault}
use Rattle.countermodel.proofs.MemberLaws.Checks.{bad-row-at}
use Rattle.countermodel.proofs.membership.check.check_rows.Goals as goal

pub loop-p-init : goal.loop-p-init
loop-p-init c = scan-none _ _ _

pub returns-then-is_bad_row : goal.returns-then-is_bad_row
unfolding rows_fault
returns-then-is_bad_row c = scan-found _ _ _ _ c.loop-p.invariant (omega arith) (bad-row-at _ c.args.rows.now c.loop-p.p ∙ sym c.is_bad_row.ensures ∙ c.if-is_bad_row.true)

pub loop-p-preserved : goal.loop-p-preserved
loop-p-preserved c = scan-more _ _ _ _ c.loop-p.invariant (omega arith) (bad-row-at _ c.args.rows.now c.loop-p.p ∙ sym c.is_bad_row.ensures ∙ c.if-is_bad_row.false)

pub returns : goal.returns
unfolding rows_fault
returns c = scan-done _ _ _ _ c.loop-p.invariant (omega arith)
