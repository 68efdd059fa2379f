use mathlib.Core.Path.{◌∙◌, sym}
use native.Mathlib.Omega.{arith}
use Rattle.subsumption.proofs.Scans.{scan-more, scan-found, scan-done}
use Rattle.settings.proofs.SettingsLaws.{permitted-uneven, largest-uneven, even-goes-on}
use Rattle.settings.proofs.check.check_settings.Goals as goal

pub returns-then-settings-count : goal.returns-then-settings-count
returns-then-settings-count c = permitted-uneven _ _ _ c.if-settings-count.true

pub returns-then-settings-count-2 : goal.returns-then-settings-count-2
returns-then-settings-count-2 c = largest-uneven _ _ _ c.if-settings-count-2.true

pub returns-then-is_faulty : goal.returns-then-is_faulty
returns-then-is_faulty c =
    even-goes-on _ _ _ _ c.loop-k.invariant.0 c.loop-k.invariant.1
    (scan-found _ _ _ _ c.loop-k.invariant.2 (omega arith) (sym c.is_faulty.ensures ∙ c.if-is_faulty.true))

pub loop-k-preserved : goal.loop-k-preserved
loop-k-preserved c = (
  c.loop-k.invariant.0,
  c.loop-k.invariant.1,
  scan-more _ _ _ _ c.loop-k.invariant.2 (omega arith) (sym c.is_faulty.ensures ∙ c.if-is_faulty.false),
)

pub returns : goal.returns
returns c = even-goes-on _ _ _ _ c.loop-k.invariant.0 c.loop-k.invariant.1 (scan-done _ _ _ _ c.loop-k.invariant.2 (omega arith))
