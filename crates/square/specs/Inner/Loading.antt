-- The rows of a written table, loaded into the square (src/loading.rt).
use Rattle.std.specs.Prelude.{ℕ, ◌+◌, ◌*◌, ◌/◌, ◌%◌, ◌<◌, ◌≤◌, ◌≡◌, List, Bool, ◌⊎◌, ltb, length, get_or}
use Rattle.subsumption.specs.Tables.{both}
use Rattle.subsumption.specs.Atoms.{bit}
use Rattle.subsumption.specs.Table.{marked}
use Rattle.square.specs.Inner.Square.{in_row, Square}

-- eight bytes of the table as one word, the first lowest
pub record WordOf (bytes : List ℕ) (at word : ℕ) : Type 0 where
  pub bits : (k : ℕ) → k < 64 → bit word k ≡ bit (get_or bytes (at + k / 8) 0) (k % 8)

-- of the k-th word of a row, the bits of ids only
pub record Masked (count k word masked : ℕ) : Type 0 where
  pub bits : (b : ℕ) → b < 64 → bit masked b ≡ both (ltb (k * 64 + b) count) (bit word b)

-- the bit of a row at j, if j is an id
abbrev pub known : List ℕ → ℕ → ℕ → ℕ → Bool
known bytes count i j = both (ltb j count) (marked bytes i j)

-- the marks of the table's rows, and none past the last column
pub record Loaded (count : ℕ) (bytes square : List ℕ) : Type 0 where
  pub whole : Square square
  pub marks : (i j : ℕ) → i < count → j < 192 → in_row square i j ≡ known bytes count i j

pub record RowLoaded (bytes : List ℕ) (count i : ℕ) (before after : List ℕ) : Type 0 where
  pub long : length after ≡ length before
  pub marks : (j : ℕ) → j < 192 → in_row after i j ≡ known bytes count i j
  pub there : (p : ℕ) → (p < i * 3) ⊎ (i * 3 + 3 ≤ p) → get_or after p 0 ≡ get_or before p 0

pub record RowsLoaded (bytes : List ℕ) (count : ℕ) (after : List ℕ) : Type 0 where
  pub long : length after ≡ 1152
  pub marks : (i j : ℕ) → i < count → j < 192 → in_row after i j ≡ known bytes count i j
