use native.Mathlib.Omega.{arith}
use mathlib.Core.Path.{◌∙◌}
use Rattle.subsumption.proofs.Scans.{scan-more, scan-found, scan-done}
use Rattle.renumbering.specs.Renumbering.{rising_fault}
use Rattle.renumbering.proofs.CheckLaws.{moved-forward}
use Rattle.renumbering.proofs.moving.check_rising.Goals as goal

pub returns-then-is_forward : goal.returns-then-is_forward
unfolding rising_fault
returns-then-is_forward c = scan-found _ _ _ _ c.loop-i.invariant (omega arith) (moved-forward _ _ _ _ _ c.moved_row-row.ensures (cc) ∙ c.if-is_forward.true)

pub loop-i-preserved : goal.loop-i-preserved
loop-i-preserved c = scan-more _ _ _ _ c.loop-i.invariant (omega arith) (moved-forward _ _ _ _ _ c.moved_row-row.ensures (cc) ∙ c.if-is_forward.false)

pub returns : goal.returns
unfolding rising_fault
returns c = scan-done _ _ _ _ c.loop-i.invariant (omega arith)
