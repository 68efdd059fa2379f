use native.Mathlib.Omega.{arith}
use Rattle.countermodel.proofs.UsedLaws.{widened_none, widened-yes, widened-no, widened-done}
use Rattle.countermodel.proofs.roles.mark_wider.Goals.{then-counts, else-counts}
use Rattle.countermodel.proofs.roles.mark_wider.Goals as goal

pub loop-s-init : goal.loop-s-init
loop-s-init c = widened_none _ _ _ c.told-used

pub loop-s-preserved : goal.loop-s-preserved
loop-s-preserved c =
    elim c.if-counts.branch [
      | then-counts w ↦ rw w.used-is (widened-yes _ _ _ _ _ c.loop-s.invariant (omega arith) _ c.counts.ensures)
      | else-counts w ↦ rw w.used-is (widened-no _ _ _ _ _ c.loop-s.invariant (omega arith) _ c.counts.ensures w.if-counts.false)
    ]

pub returns : goal.returns
returns c = widened-done _ _ _ _ _ c.loop-s.invariant (omega arith)
