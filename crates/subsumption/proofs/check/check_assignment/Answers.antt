use mathlib.Core.Path.{◌∙◌, sym}
use native.Mathlib.Omega.{arith}
use Rattle.subsumption.proofs.Scans.{scan-none, scan-more, scan-found, scan-done}
use Rattle.subsumption.proofs.Accepted.{wrong-count, right-count}
use Rattle.subsumption.proofs.check.check_assignment.Goals as goal

pub returns-then-assignment-count : goal.returns-then-assignment-count
returns-then-assignment-count c = wrong-count _ _ _ c.if-assignment-count.true

pub loop-k-init : goal.loop-k-init
loop-k-init c = (c.if-assignment-count.false, scan-none _ _ _)

pub returns-then-is_past : goal.returns-then-is_past
returns-then-is_past c =
    right-count _ _ _ _ c.loop-k.invariant.0
    (scan-found _ _ _ _ c.loop-k.invariant.1 (omega arith) (sym c.is_past.ensures ∙ c.if-is_past.true))

pub loop-k-preserved : goal.loop-k-preserved
loop-k-preserved c = (
  c.loop-k.invariant.0,
  scan-more _ _ _ _ c.loop-k.invariant.1 (omega arith) (sym c.is_past.ensures ∙ c.if-is_past.false),
)

pub returns : goal.returns
returns c = right-count _ _ _ _ c.loop-k.invariant.0 (scan-done _ _ _ _ c.loop-k.invariant.1 (omega arith))
