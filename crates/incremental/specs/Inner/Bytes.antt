-- The rows of the square, stored into the held table (src/bytes.rt).
use Rattle.std.specs.Prelude.{ℕ, ◌+◌, ◌/◌, ◌%◌, ◌<◌, ◌≤◌, ◌≡◌, List, ◌⊎◌, length, get_or}
use Rattle.subsumption.specs.Tables.{or}
use Rattle.subsumption.specs.Atoms.{bit}
use Rattle.subsumption.specs.Table.{row_start, marked}
use Rattle.square.specs.Inner.Square.{in_row}

-- a word's bits come to eight bytes
pub record WordStored (word at : ℕ) (before after : List ℕ) : Type 0 where
  pub size : length after ≡ length before
  pub bits : (k : ℕ) → k < 64 → bit (get_or after (at + k / 8) 0) (k % 8) ≡ or (bit (get_or before (at + k / 8) 0) (k % 8)) (bit word k)
  pub there : (p : ℕ) → (p < at) ⊎ (at + 8 ≤ p) → get_or after p 0 ≡ get_or before p 0

-- the row's marks come to those of the table
pub record RowStored (square : List ℕ) (i : ℕ) (before after : List ℕ) : Type 0 where
  pub size : length after ≡ length before
  pub bits : (j : ℕ) → j < 192 → marked after i j ≡ or (marked before i j) (in_row square i j)
  pub under : (p : ℕ) → p < row_start i → get_or after p 0 ≡ get_or before p 0
  pub over : (p : ℕ) → row_start i + 24 ≤ p → get_or after p 0 ≡ get_or before p 0

pub record Stored (square : List ℕ) (count : ℕ) (before after : List ℕ) : Type 0 where
  pub size : length after ≡ length before
  pub bits : (i j : ℕ) → i < count → j < 192 → marked after i j ≡ or (marked before i j) (in_row square i j)
  pub rest : (p : ℕ) → row_start count ≤ p → get_or after p 0 ≡ get_or before p 0
