-- What writing the rows out of the columns promises (src/rows.rt).
use Rattle.std.specs.Prelude.{ℕ, ◌+◌, ◌*◌, ◌/◌, ◌%◌, ◌^◌, ◌<◌, ◌≤◌, ◌≡◌, List, Bool, ltb, length, get_or}
use Rattle.std.specs.Int.Bits.{bit_and, bit_or}
use Rattle.subsumption.specs.Tables.{both}
use Rattle.subsumption.specs.Atoms.{bit}
use Rattle.subsumption.specs.Table.{row_start, marked}
use Rattle.subsumption.specs.Inner.Columns.{has}

-- the bit of a row at j: set if j is an id and i is in its column
abbrev pub shown : List ℕ → ℕ → ℕ → ℕ → Bool
shown columns count i j = both (ltb j count) (has columns i j)

-- the bits of the number exchanged: those at `up` come from `by` places above, those at `down` from as many below
abbrev pub exchanged : ℕ → ℕ → ℕ → ℕ → ℕ → ℕ
exchanged x by stay up down = bit_or (bit_or (bit_and x stay) (bit_and (x / 2 ^ by) up)) (bit_and (x * 2 ^ by % 2 ^ 64) down)

-- eight rows of eight bits, and their transpose
pub record Transposed (x y : ℕ) : Type 0 where
  pub bits : (r b : ℕ) → r < 8 → b < 8 → bit y (r * 8 + b) ≡ bit x (b * 8 + r)

-- what the columns 8 a to 8 a + 7 have of the ids 8 m to 8 m + 7: a byte for each column
pub record BlockOf (columns : List ℕ) (count m a word : ℕ) : Type 0 where
  pub bits : (b r : ℕ) → b < 8 → r < 8 → bit word (b * 8 + r) ≡ shown columns count (m * 8 + r) (a * 8 + b)

-- the rows 8 m to 8 m + 7, word a has their bytes a
pub record BandOf (columns : List ℕ) (count m : ℕ) (band : List ℕ) : Type 0 where
  pub long : length band ≡ 24
  pub bits : (r j : ℕ) → r < 8 → j < 192 → bit (get_or band (j / 8) 0) (r * 8 + j % 8) ≡ shown columns count (m * 8 + r) j

-- the band is that of row i, unless i starts a new one
pub record Banded (columns : List ℕ) (count i : ℕ) (band : List ℕ) : Type 0 where
  pub long : length band ≡ 24
  pub of : (i % 8 ≡ 0 → ⊥) → BandOf columns count (i / 8) band

-- the bit of row i at j, in its band
abbrev pub banded : List ℕ → ℕ → ℕ → Bool
banded band i j = bit (get_or band (j / 8) 0) (i % 8 * 8 + j % 8)

pub record RowWritten (band : List ℕ) (i : ℕ) (before after : List ℕ) : Type 0 where
  pub size : length after ≡ length before
  pub bits : (j : ℕ) → j < 192 → marked after i j ≡ banded band i j
  pub under : (p : ℕ) → p < row_start i → get_or after p 0 ≡ get_or before p 0
  pub over : (p : ℕ) → row_start i + 24 ≤ p → get_or after p 0 ≡ get_or before p 0

pub record Written (columns : List ℕ) (count : ℕ) (before after : List ℕ) : Type 0 where
  pub size : length after ≡ length before
  pub bits : (i j : ℕ) → i < count → j < 192 → marked after i j ≡ shown columns count i j
  pub rest : (p : ℕ) → row_start count ≤ p → get_or after p 0 ≡ get_or before p 0
