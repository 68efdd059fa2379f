-- What carrying a failed test on promises.
use Rattle.std.specs.Prelude.{ℕ, ◌<◌, ◌≡◌, List, true, ◌⊎◌, length, take}
use Rattle.subsumption.specs.Tables.{Tables, pairs_of}
use Rattle.matching.specs.Solving.{takes}
use Rattle.matching.specs.Inner.Search.{HoldsAt}
use Rattle.matching.specs.Inner.Search.Problem.{Problem}
use Rattle.matching.specs.Inner.Search.Interval.{IntervalOf}

-- Every pair is as in one of the two.
pub record Mixed (a b mix : List ℕ) : Type 0 where
  pub long : length mix ≡ 8
  pub upper : (k q : ℕ) → takes mix k q ≡ true → (takes a k q ≡ true) ⊎ (takes b k q ≡ true)
  pub lower : (k q : ℕ) → takes a k q ≡ true → takes b k q ≡ true → takes mix k q ≡ true

-- A question that fails at the choice fails there too.
abbrev pub StillFails : List ℕ → List ℕ → ℕ → List ℕ → List ℕ → List ℕ → Type 0
StillFails sets problem m choice target failing =
    (t : Tables) → Problem t sets problem → m < pairs_of t.questions → (full : List ℕ) → IntervalOf t choice full
    → IntervalOf t target full
    → (HoldsAt t (take t.variables choice) m → ⊥) → HoldsAt t (take t.variables failing) m → ⊥
