-- The settings that a function is lent, as a `requires` reads them: before its body.
use Rattle.settings.specs.declared.check.Settings.{Settings as Lent}
use Rattle.settings.specs.Settings.{Settings, settings}

abbrev pub given_settings : Lent → Settings
given_settings s = settings s.permitted.now s.largest.now
