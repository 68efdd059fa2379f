-- How long the kept passes and failures are (src/kept.rt).
use Rattle.std.specs.Prelude.{ℕ}

abbrev pub kept_size : ℕ
kept_size = 516
