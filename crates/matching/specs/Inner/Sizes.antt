-- How long what the functions of the search lend each other is (src/limits.rt has what lies where).
use Rattle.std.specs.Prelude.{ℕ}

-- The numbers that tests read.
abbrev pub problem_size : ℕ
problem_size = 971

-- What a search writes beside the nogoods.
abbrev pub scratch_size : ℕ
scratch_size = 16977
