-- Transposing the square's rows into its columns, by blocks of 64 by 64 bits (src/turning.rt).
use Rattle.std.specs.Prelude.{ℕ, ◌+◌, ◌-◌, ◌*◌, ◌/◌, ◌%◌, ◌^◌, ◌<◌, ◌≤◌, ◌≡◌, List, not, eqb, length, get_or}
use Rattle.subsumption.specs.Atoms.{bit}

-- The words of a block in pairs that stand `by` apart: the first one of the pair p, and the pair of the word x.
abbrev pub first_of : ℕ → ℕ → ℕ
first_of by p = p + p / by * by

abbrev pub pair_of : ℕ → ℕ → ℕ
pair_of by x = x / (by * 2) * by + x % by

-- x with its digit at `by` taken from y
abbrev pub swapped : ℕ → ℕ → ℕ → ℕ
swapped by x y = x / (by * 2) * (by * 2) + y / by % 2 * by + x % by

-- What an exchange rests on: `by` is a power of two, and the masks have just the places whose digit at `by` is 0, or is not.
pub record Exchange (s by low high : ℕ) : Type 0 where
  pub short : s < 64
  pub small : by < 64
  pub place : (p : ℕ) → p < 32 → p / 2 ^ s * 2 ^ s % 18446744073709551616 ≡ p / by * by
  pub inside : (p : ℕ) → p < 32 → first_of by p + by < 64
  pub first-pair : (p : ℕ) → p < 32 → pair_of by (first_of by p) ≡ p
  pub second-pair : (p : ℕ) → p < 32 → pair_of by (first_of by p + by) ≡ p
  pub first-digit : (p : ℕ) → p < 32 → first_of by p / by % 2 ≡ 0
  pub second-digit : (p : ℕ) → p < 32 → (first_of by p + by) / by % 2 ≡ 1
  pub pairs : (x : ℕ) → x < 64 → pair_of by x < 32
  pub is-first : (x : ℕ) → x < 64 → x / by % 2 ≡ 0 → x ≡ first_of by (pair_of by x)
  pub is-second : (x : ℕ) → x < 64 → (x / by % 2 ≡ 0 → ⊥) → x ≡ first_of by (pair_of by x) + by
  pub low_bit : (c : ℕ) → c < 64 → bit low c ≡ eqb (c / by % 2) 0
  pub high_bit : (c : ℕ) → c < 64 → bit high c ≡ not (eqb (c / by % 2) 0)
  pub down : (c : ℕ) → c < 64 → (c / by % 2 ≡ 0 → ⊥) → (by ≤ c) × ((c - by) / by % 2 ≡ 0)
  pub odd-down : (c : ℕ) → c < 64 → c / by % 2 ≡ 0 → by ≤ c → (c - by) / by % 2 ≡ 0 → ⊥
  pub same_low : (x c : ℕ) → x / by % 2 ≡ 0 → c / by % 2 ≡ 0 → swapped by x c ≡ x
  pub same-high : (x c : ℕ) → (x / by % 2 ≡ 0 → ⊥) → (c / by % 2 ≡ 0 → ⊥) → swapped by x c ≡ x
  pub up : (x c : ℕ) → x / by % 2 ≡ 0 → (c / by % 2 ≡ 0 → ⊥) → swapped by x c ≡ x + by
  pub back : (x c : ℕ) → (x / by % 2 ≡ 0 → ⊥) → c / by % 2 ≡ 0 → swapped by x c + by ≡ x

-- places and words exchange that digit
pub record Staged (by : ℕ) (before after : List ℕ) : Type 0 where
  pub long : length after ≡ 64
  pub bits : (x c : ℕ) → x < 64 → c < 64 → bit (get_or after x 0) c ≡ bit (get_or before (swapped by x c) 0) (swapped by c x)

pub record Turned (before after : List ℕ) : Type 0 where
  pub long : length after ≡ 64
  pub bits : (x c : ℕ) → x < 64 → c < 64 → bit (get_or after x 0) c ≡ bit (get_or before c 0) x

-- of the rows 64 a to 64 a + 63 the word b
pub record BlockOf (square : List ℕ) (a b : ℕ) (block : List ℕ) : Type 0 where
  pub long : length block ≡ 64
  pub words : (k : ℕ) → k < 64 → get_or block k 0 ≡ get_or square ((a * 64 + k) * 3 + b) 0

-- of the columns 64 b to 64 b + 63 the word a is set, and nothing else
pub record BlockSet (block : List ℕ) (a b : ℕ) (before after : List ℕ) : Type 0 where
  pub long : length after ≡ length before
  pub words : (k : ℕ) → k < 64 → get_or after (576 + (b * 64 + k) * 3 + a) 0 ≡ get_or block k 0
  pub there : (p : ℕ) → ((k : ℕ) → k < 64 → p ≡ 576 + (b * 64 + k) * 3 + a → ⊥) → get_or after p 0 ≡ get_or before p 0

-- the rows stay, and the columns become theirs
pub record Transposed (before after : List ℕ) : Type 0 where
  pub long : length after ≡ 1152
  pub rows : (p : ℕ) → p < 576 → get_or after p 0 ≡ get_or before p 0
  pub columns :
      (i j : ℕ) → i < 192 → j < 192 → bit (get_or after (576 + j * 3 + i / 64) 0) (i % 64) ≡ bit (get_or before (i * 3 + j / 64) 0) (j % 64)
