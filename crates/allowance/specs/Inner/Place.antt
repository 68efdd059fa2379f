-- Partial choices as words, and the next one that does not extend one (src/place.rt).
use Rattle.std.specs.Prelude.{ℕ, ◌+◌, ◌*◌, ◌<◌, ◌≤◌, ◌≡◌, List, [], ◌∷◌, Bool, true, false, length, Option, Some, None}
use Rattle.matching.specs.Solving.{takes}
use Rattle.allowance.specs.Partial.{settled}
use Rattle.allowance.specs.declared.place.Place.{Place}

-- the words take what is settled so, and of all else what `rest` says
pub record Side (count : ℕ) (rest : ℕ → ℕ → Bool) (words : List ℕ) (s : List Bool) : Type 0 where
  pub long : length words ≡ 8
  pub taken : (k q : ℕ) → q < count → takes words k q ≡ settled s (rest k q) (k * count + q)
  pub past : (k q : ℕ) → count ≤ q → takes words k q ≡ rest k q

-- what is taken where the unsettled atoms are left out, and where the permitted ones of them are taken
pub record Words (count : ℕ) (permitted low high : List ℕ) (s : List Bool) : Type 0 where
  pub few : length s ≤ 8 * count
  pub low-side : Side count (λ k q. false) low s
  pub high-side : Side count (takes permitted) high s

-- the same for tables of so many variables: nothing is taken past the variables and atoms
pub record At (variables count : ℕ) (permitted low high : List ℕ) (s : List Bool) : Type 0 where
  pub low-long : length low ≡ 8
  pub high-long : length high ≡ 8
  pub within : length s ≤ variables * count
  pub low-taken : (k q : ℕ) → k < variables → q < count → takes low k q ≡ settled s false (k * count + q)
  pub high_taken : (k q : ℕ) → k < variables → q < count → takes high k q ≡ settled s (takes permitted k q) (k * count + q)
  pub low-known : (k q : ℕ) → takes low k q ≡ true → (k < variables) × (q < count)
  pub high-known : (k q : ℕ) → takes high k q ≡ true → (k < variables) × (q < count)

-- the last pair that is left out, if there is one, taken in its place
unfoldable pub has_next : List Bool → Bool
has_next [] = false
has_next (false ∷ s) = true
has_next (true ∷ s) = has_next s

unfoldable pub next_of : List Bool → List Bool
next_of [] = []
next_of (false ∷ s) = true ∷ s
next_of (true ∷ s) = next_of s

pub record NextAt (count : ℕ) (permitted low high : List ℕ) (settled₁ : ℕ) (s : List Bool) : Type 0 where
  pub words : Words count permitted low high (next_of s)
  pub many : length (next_of s) ≡ settled₁

-- of whatever partial choice the words are
abbrev pub NextFrom : ℕ → List ℕ → List ℕ → List ℕ → ℕ → Option Place → Type 0
NextFrom count permitted low high many (Some place) =
    ((length place.low ≡ 8) × (length place.high ≡ 8) × (place.settled ≤ 8 * count))
    × ((s : List Bool) → Words count permitted low high s → length s ≡ many → (has_next s ≡ true)
    × NextAt count permitted place.low place.high place.settled s)
NextFrom count permitted low high many None =
    (s : List Bool) → Words count permitted low high s → length s ≡ many → has_next s ≡ false
