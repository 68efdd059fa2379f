use native.Mathlib.Omega.{arith}
use mathlib.Core.Path.{sym, ap, ◌∙◌}
use lib.ListN.{length}
use Rattle.subsumption.proofs.Accepted.{well_formed}
use Rattle.matching.proofs.WithinLaws.{settings-known, settings-refuse}
use Rattle.subsumption.proofs.Refusals.{handed_up}
use Rattle.matching.proofs.within.find_known.Goals as goal

pub check_settings-requires : goal.check_settings-requires
check_settings-requires c = omega (arith, ap length c.requires.listed, (well_formed _ c.requires.passed).few-atoms)

pub find_set-requires : goal.find_set-requires
find_set-requires c = record { accepted = c.requires; largest_value = sym (settings-known _ _ _ c.check_settings.result c.requires c.check_settings.ensures) ∙ c.in_ok-check_settings.was }

pub returns-in_err-check_settings : goal.returns-in_err-check_settings
returns-in_err-check_settings c = rw (handed_up _ c.from_residual.ensures) (settings-refuse _ _ _ c.args.out.now c.requires.passed _ (sym c.in_err-check_settings.was ∙ settings-known _ _ _ c.check_settings.result c.requires c.check_settings.ensures))

pub returns : goal.returns
returns c = c.find_set.ensures
