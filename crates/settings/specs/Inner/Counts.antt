-- What testing and clamping by largest counts promises (src/counts.rt).
use Rattle.std.specs.Prelude.{ℕ, ◌<◌, ◌≤◌, ◌≡◌, List, Bool, true, false, ◌⊎◌, length, get_or}
use Rattle.subsumption.specs.Atoms.{bit}
use Rattle.settings.specs.Settings.{size}

-- a variable that takes more than its largest count
pub record Over (most choice : List ℕ) : Type 0 where
  pub variable : ℕ
  pub low : variable < 8
  pub over : get_or most variable 0 < size (get_or choice variable 0)

abbrev pub Counted : List ℕ → List ℕ → Bool → Type 0
Counted most choice true = (k : ℕ) → k < 8 → size (get_or choice k 0) ≤ get_or most k 0
Counted most choice false = Over most choice

-- the low side has reached the count of the variable
abbrev pub Reached : List ℕ → List ℕ → ℕ → Type 0
Reached most low k = get_or most k 0 ≤ size (get_or low k 0)

-- each variable's choice is as before, or as the low side's that has reached the count
pub record Clamped (most low high inner : List ℕ) : Type 0 where
  pub long : length inner ≡ 8
  pub each : (k : ℕ) → k < 8 → (get_or inner k 0 ≡ get_or high k 0) ⊎ ((get_or inner k 0 ≡ get_or low k 0) × Reached most low k)

-- At each variable the nogood is as it was and around the high side, if it was around the inner one, ...
pub record KeptAt (high inner below above low₁ high₁ : List ℕ) (k : ℕ) : Type 0 where
  pub low_same : get_or low₁ k 0 ≡ get_or below k 0
  pub high_same : get_or high₁ k 0 ≡ get_or above k 0
  pub around : (get_or inner k 0 ≡ get_or high k 0) ⊎ ((q : ℕ) → bit (get_or high k 0) q ≡ true → bit (get_or above k 0) q ≡ true)

-- ... or it reaches from the low side's choice to the full one, where clamping took something away.
pub record NamedAt (full low high inner low₁ high₁ : List ℕ) (k : ℕ) : Type 0 where
  pub low-named : get_or low₁ k 0 ≡ get_or low k 0
  pub high-full : get_or high₁ k 0 ≡ get_or full k 0
  pub clamped : get_or inner k 0 ≡ get_or high k 0 → ⊥

pub record Unclamped (full low high inner below above low₁ high₁ : List ℕ) : Type 0 where
  pub low-long : length low₁ ≡ 8
  pub high-long : length high₁ ≡ 8
  pub each : (k : ℕ) → k < 8 → KeptAt high inner below above low₁ high₁ k ⊎ NamedAt full low high inner low₁ high₁ k
