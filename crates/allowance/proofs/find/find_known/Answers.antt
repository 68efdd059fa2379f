use mathlib.Core.Path.{sym, ◌∙◌}
use Rattle.matching.proofs.WithinLaws.{settings-known}
use Rattle.allowance.proofs.AnswerLaws.{ids-few, settings-refuse}
use Rattle.allowance.proofs.find.find_known.Goals as goal

pub check_settings-checked-requires : goal.check_settings-checked-requires
check_settings-checked-requires c = ids-few _ _ c.requires

pub find_set-requires : goal.find_set-requires
find_set-requires c = record { accepted = c.requires; largest_value = sym (settings-known _ _ _ c.check_settings-checked.result c.requires c.check_settings-checked.ensures) ∙ c.in-Ok.is }

pub returns-in-Err : goal.returns-in-Err
returns-in-Err c = settings-refuse _ _ _ c.args.out.now _ _ c.refused.ensures c.requires.passed (sym c.in-Err.is ∙ settings-known _ _ _ c.check_settings-checked.result c.requires c.check_settings-checked.ensures)

pub returns-in-Ok : goal.returns-in-Ok
returns-in-Ok c = c.find_set.ensures
