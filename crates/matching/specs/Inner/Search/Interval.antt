-- What an interval of assignments is, and what picking an undecided pair of it promises.
use Rattle.subsumption.specs.Refusal.{Done}
use Rattle.std.specs.Prelude.{ℕ, ◌<◌, ◌≤◌, ◌/◌, ◌%◌, ◌≡◌, List, Bool, true, false, not, length, take, Option, Some, None}
use Rattle.subsumption.specs.Tables.{Tables, both}
use Rattle.subsumption.specs.Check.{assignment_fault}
use Rattle.subsumption.specs.Table.{counted}
use Rattle.matching.specs.Solving.{takes}
use Rattle.matching.specs.Inner.Search.{Within}

-- An interval of assignments: eight numbers on each side, with nothing past the variables.
pub record IntervalOf (t : Tables) (low high : List ℕ) : Type 0 where
  pub low-long : length low ≡ 8
  pub high-long : length high ≡ 8
  pub accepted : assignment_fault t (take t.variables high) ≡ Done
  pub ordered : Within low high
  pub idle : (k q : ℕ) → t.variables ≤ k → takes high k q ≡ true → ⊥

-- The pairs are counted through, 64 positions a variable. This one may be taken or left.
unfoldable pub undecided : List ℕ → List ℕ → ℕ → Bool
undecided low high p = both (takes high (p / 64) (p % 64)) (not (takes low (p / 64) (p % 64)))

-- How many pairs are undecided.
unfoldable pub open_pairs : List ℕ → List ℕ → ℕ
open_pairs low high = counted (undecided low high) 512

-- The first pair that may be taken or left, if there is one.
abbrev pub Picked : List ℕ → List ℕ → Option ℕ → Type 0
Picked low high (Some p) = (p < 512) × (undecided low high p ≡ true)
Picked low high None = (p : ℕ) → p < 512 → undecided low high p ≡ false
