-- How long what functions lend each other is, by the limits of 01 (src/limits.rt has the same for the code).
use Rattle.std.specs.Prelude.{ℕ, ◌*◌}

-- The columns of a closure: three words for each of 192 ids.
abbrev pub columns_size : ℕ
columns_size = 192 * 3

-- The sets of roles that count as a role: two words for each of 100.
abbrev pub roles_size : ℕ
roles_size = 100 * 2

-- The bytes of a whole table.
abbrev pub table_size : ℕ
table_size = 192 * 24
