-- The square of marks, held twice: its rows from word 0 on, its columns from word 576 on, three words of 64 bits a line.
-- Row i has j, and column j has i, when i is marked below j.
use Rattle.std.specs.Prelude.{ℕ, ◌+◌, ◌*◌, ◌/◌, ◌%◌, ◌<◌, ◌≡◌, List, Bool, length, get_or}
use Rattle.subsumption.specs.Atoms.{bit}

-- y is in the set of the three words from `at` on
unfoldable pub on_line : List ℕ → ℕ → ℕ → Bool
on_line words at y = bit (get_or words (at + y / 64) 0) (y % 64)

-- i is marked below j
abbrev pub in_row : List ℕ → ℕ → ℕ → Bool
in_row square i j = on_line square (i * 3) j

abbrev pub in_column : List ℕ → ℕ → ℕ → Bool
in_column square i j = on_line square (576 + j * 3) i

-- both halves say the same
pub record Square (square : List ℕ) : Type 0 where
  pub long : length square ≡ 1152
  pub mirror : (i j : ℕ) → i < 192 → j < 192 → in_row square i j ≡ in_column square i j
