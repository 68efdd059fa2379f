-- What narrowing promises: pairs leave the high side that no solution takes.
use Rattle.subsumption.specs.Refusal.{Done}
use Rattle.std.specs.Prelude.{ℕ, ◌≡◌, List, take}
use Rattle.subsumption.specs.Tables.{Tables}
use Rattle.subsumption.specs.Check.{assignment_fault}
use Rattle.matching.specs.Among.{SolvesAmong}
use Rattle.matching.specs.Inner.Search.{Within}
use Rattle.matching.specs.Inner.Search.Problem.{Problem, AskedAt}

-- every solution inside the one is inside the other
pub record Narrower (t : Tables) (problem before after : List ℕ) : Type 0 where
  pub fewer : Within after before
  pub all :
      (other : List ℕ) → assignment_fault t other ≡ Done → SolvesAmong (AskedAt problem) t other → Within other (take t.variables before)
      → Within other (take t.variables after)

abbrev pub Narrowed : List ℕ → List ℕ → List ℕ → List ℕ → Type 0
Narrowed sets problem before after =
    (t : Tables) → Problem t sets problem → assignment_fault t (take t.variables before) ≡ Done → Narrower t problem before after
