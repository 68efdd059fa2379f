use mathlib.Core.Path.{sym, ◌∙◌}
use Rattle.settings.proofs.SettingsLaws.{past-faulty, count-faulty}
use Rattle.settings.proofs.check.is_faulty.Goals as goal

pub returns-then-is_past : goal.returns-then-is_past
returns-then-is_past c = c.if-is_past.true ∙ past-faulty _ _ _ (sym c.is_past.ensures ∙ c.if-is_past.true)

pub returns-else-is_past : goal.returns-else-is_past
returns-else-is_past c = count-faulty _ _ _ (sym c.is_past.ensures ∙ c.if-is_past.false)
