use native.Mathlib.Omega.{arith}
use Rattle.countermodel.proofs.UsedLaws.{used-none, used-yes, used-no, used-done}
use Rattle.countermodel.proofs.roles.mark_used.Goals.{then-own-r, else-own-r}
use Rattle.countermodel.proofs.roles.mark_used.Goals as goal

pub loop-r-init : goal.loop-r-init
loop-r-init c = used-none _ _ _ c.told-used

pub loop-r-preserved : goal.loop-r-preserved
loop-r-preserved c =
    elim c.if-own-r.branch [
      | then-own-r w ↦ rw w.used-is (used-yes _ _ _ _ c.loop-r.invariant (omega arith) _ w.mark_wider.ensures)
      | else-own-r w ↦ rw w.used-is (used-no _ _ _ _ c.loop-r.invariant (omega arith) w.if-own-r.false)
    ]

pub returns : goal.returns
returns c = used-done _ _ _ _ c.loop-r.invariant (omega arith)
