-- What the walk to the first solution promises.
use Rattle.subsumption.specs.Refusal.{Done}
use Rattle.std.specs.Prelude.{ℕ, ◌≡◌, List, ◌⊎◌, take}
use Rattle.subsumption.specs.Tables.{Tables}
use Rattle.subsumption.specs.Check.{assignment_fault}
use Rattle.matching.specs.Solving.{Earlier}
use Rattle.matching.specs.Inner.Search.{Between, Meets, SolutionIn}
use Rattle.matching.specs.Inner.Search.Problem.{Problem}
use Rattle.matching.specs.Inner.Search.Interval.{IntervalOf}
use Rattle.matching.specs.Inner.Search.Nogoods.{Nogoods}

-- The first of the solutions between.
pub record FirstIn (t : Tables) (problem low high choice : List ℕ) : Type 0 where
  pub solution : SolutionIn t problem low high choice
  pub first :
      (other : List ℕ) → assignment_fault t other ≡ Done → Between (take t.variables low) (take t.variables high) other
      → Meets t problem other
      → (other ≡ take t.variables choice) ⊎ Earlier (take t.variables choice) other

-- The same of whatever tables the sets and numbers are, from a known solution.
abbrev pub FirstOf : List ℕ → List ℕ → List ℕ → List ℕ → List ℕ → List ℕ → List ℕ → Type 0
FirstOf sets problem low high store known choice =
    (t : Tables) → Problem t sets problem → IntervalOf t low high → Nogoods t problem store → SolutionIn t problem low high known
    → FirstIn t problem low high choice
