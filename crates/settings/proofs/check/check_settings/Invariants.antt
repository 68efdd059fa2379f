use mathlib.Core.Path.{◌≡◌}
use lib.ListN.{length}
use Rattle.subsumption.specs.declared.refusal.Refusal.TheVariants.{BadSettings}
use Rattle.subsumption.proofs.Scans.{Scan}
use Rattle.settings.specs.Settings.{faulty_at}
use Rattle.settings.specs.Inner.Lent.{given_settings}
use Rattle.settings.proofs.check.check_settings.Given as goal

abbrev pub invariant-loop-k : goal.invariant-loop-k
invariant-loop-k l =
    (length l.settings.permitted.now ≡ l.variables) × (length l.settings.largest.now ≡ l.variables)
    × Scan BadSettings (faulty_at l.atoms (given_settings l.settings)) l.variables l.k
