-- Columns of bits, and what one step does to them (src/closure/columns.rt): column j is the set of ids known to be below j.
use Rattle.std.specs.Prelude.{ℕ, ◌+◌, ◌-◌, ◌*◌, ◌/◌, ◌%◌, ◌^◌, ◌<◌, ◌≤◌, ◌≡◌, List, [], ◌∷◌, Bool, true, false, ◌⊎◌, length, get_or}
use Rattle.std.specs.Int.Bits.{bit_or}
use Rattle.subsumption.specs.Atoms.{bit}

-- id i is in column j: three words of 64 bits a column
unfoldable pub has : List ℕ → ℕ → ℕ → Bool
has columns i j = bit (get_or columns (j * 3 + i / 64) 0) (i % 64)

-- how far the words are from being all ones: falls with every change
unfoldable pub slack : List ℕ → ℕ
slack [] = 0
slack (w ∷ ws) = (2 ^ 64 - w) + slack ws

-- what is below x is below y
abbrev pub Into : ℕ → List ℕ → ℕ → ℕ → Type 0
Into count columns x y = (i : ℕ) → i < count → has columns i x ≡ true → has columns i y ≡ true

-- columns that hold nothing
pub record Empty (columns : List ℕ) : Type 0 where
  pub long : length columns ≡ 576
  pub zeros : (p : ℕ) → p < 576 → get_or columns p 0 ≡ 0

-- what one word does: it takes in the bits of `add`
pub record Absorbs (before after : List ℕ) (at add : ℕ) (changed : Bool) : Type 0 where
  pub long : length after ≡ length before
  pub here : get_or after at 0 ≡ bit_or (get_or before at 0) add
  pub there : (p : ℕ) → (p ≡ at → ⊥) → get_or after p 0 ≡ get_or before p 0
  pub quiet : changed ≡ false → after ≡ before
  pub less : changed ≡ true → slack after < slack before

-- the columns in `to` take in the ids in `add`, and nothing else changes; `changed` says whether there was anything new
pub record Takes (before after : List ℕ) (to add : ℕ → Type 0) (changed : Bool) : Type 0 where
  pub long : length after ≡ length before
  pub bits : (i j : ℕ) → i < 192 → has after i j ≡ true → (has before i j ≡ true) ⊎ (to j × add i)
  pub taken : changed ≡ false → (i j : ℕ) → i < 192 → to j → add i → has before i j ≡ true
  pub quiet : changed ≡ false → after ≡ before
  pub less : changed ≡ true → slack after < slack before

abbrev pub InThree : ℕ → ℕ → ℕ → ℕ → Type 0
InThree first second third i = bit (get_or (first ∷ second ∷ third ∷ []) (i / 64) 0) (i % 64) ≡ true

-- what the functions on a variable's choice ask of the atoms
pub record Known (atoms : List ℕ) : Type 0 where
  pub few : length atoms ≤ 64
  pub low : (q : ℕ) → q < length atoms → get_or atoms q 0 < 192

-- the word has just the bits that the word `part` of the column of every atom has that is chosen at a place below n
pub record Common (n : ℕ) (atoms : List ℕ) (choice : ℕ) (columns : List ℕ) (part word : ℕ) : Type 0 where
  pub only :
      (k q : ℕ) → k < 64 → bit word k ≡ true → q < n → bit choice q ≡ true → bit (get_or columns (get_or atoms q 0 * 3 + part) 0) k ≡ true
  pub every :
      (k : ℕ) → k < 64 → ((q : ℕ) → q < n → bit choice q ≡ true → bit (get_or columns (get_or atoms q 0 * 3 + part) 0) k ≡ true)
      → bit word k ≡ true
