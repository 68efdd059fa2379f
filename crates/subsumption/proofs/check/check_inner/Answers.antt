use native.Mathlib.Omega.{arith}
use Rattle.subsumption.specs.Check.{forward_fault}
use Rattle.subsumption.proofs.Scans.{scan-none, scan-more, scan-found, scan-done}
use Rattle.subsumption.proofs.check.check_inner.Goals as goal

pub loop-i-init : goal.loop-i-init
loop-i-init c = scan-none _ _ _

pub returns-then-is_forward : goal.returns-then-is_forward
unfolding forward_fault
returns-then-is_forward c =
    scan-found _ _ _ _ c.loop-i.invariant (omega arith) (cc)

pub loop-i-preserved : goal.loop-i-preserved
loop-i-preserved c =
    scan-more _ _ _ _ c.loop-i.invariant (omega arith) (cc)

pub returns : goal.returns
unfolding forward_fault
returns c = scan-done _ _ _ _ c.loop-i.invariant (omega arith)
