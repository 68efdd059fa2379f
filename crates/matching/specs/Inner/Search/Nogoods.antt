-- Intervals that hold no solution, kept in one list of numbers: how many, then the low and the high side of each.
use Rattle.std.specs.Prelude.{ℕ, ◌+◌, ◌*◌, ◌<◌, ◌≤◌, ◌≡◌, List, ◌⊎◌, length, take, drop, get_or}
use Rattle.subsumption.specs.Tables.{Tables}
use Rattle.matching.specs.Inner.Search.{NoSolution}

abbrev pub words : List ℕ → ℕ → List ℕ
words store at = take 8 (drop at store)

abbrev pub used : List ℕ → ℕ
used store = get_or store 0 0

abbrev pub low_at : List ℕ → ℕ → List ℕ
low_at store c = words store (c * 16 + 1)

abbrev pub high_at : List ℕ → ℕ → List ℕ
high_at store c = words store (c * 16 + 9)

-- There is room for 1024.
pub record Room (store : List ℕ) : Type 0 where
  pub long : length store ≡ 16385
  pub few : used store ≤ 1024

pub record Nogoods (t : Tables) (problem store : List ℕ) : Type 0 where
  pub room : Room store
  pub each : (c : ℕ) → c < used store → NoSolution t problem (low_at store c) (high_at store c)

-- Eight numbers are written at a place.
pub record Put (at : ℕ) (set before after : List ℕ) : Type 0 where
  pub size : length after ≡ length before
  pub here : (k : ℕ) → k < 8 → get_or after (at + k) 0 ≡ get_or set k 0
  pub there : (p : ℕ) → (p < at) ⊎ (at + 8 ≤ p) → get_or after p 0 ≡ get_or before p 0

-- An interval was there before, or it is the new one.
abbrev pub Kept : List ℕ → List ℕ → ℕ → Type 0
Kept before after c = (c < used before) × (low_at after c ≡ low_at before c) × (high_at after c ≡ high_at before c)

pub record Added (low high before after : List ℕ) : Type 0 where
  pub room : Room after
  pub each : (c : ℕ) → c < used after → Kept before after c ⊎ ((low_at after c ≡ low) × (high_at after c ≡ high))
