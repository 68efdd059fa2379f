-- What the parts of the search share: assignments between two others, and those of them that solve.
pub mod Interval
pub mod Lent
pub mod Making
pub mod Narrow
pub mod Needs
pub mod Nogoods
pub mod Order
pub mod Pairs
pub mod Patterns
pub mod Problem
pub mod Sets
pub mod Solve
pub mod Widen
use Rattle.subsumption.specs.Refusal.{Done}
use Rattle.std.specs.Prelude.{ℕ, ◌≤◌, ◌≡◌, List, Bool, true, false, length, take, get_or}
use Rattle.subsumption.specs.Tables.{Tables, left_of, right_of}
use Rattle.subsumption.specs.Subsumption.{Subsumed}
use Rattle.subsumption.specs.Check.{assignment_fault}
use Rattle.settings.specs.Settings.{size}
use Rattle.matching.specs.Solving.{takes}
use Rattle.matching.specs.Among.{SolvesAmong}
use Rattle.matching.specs.Inner.Search.Problem.{most_at, AskedAt}

-- A truth value tells whether a statement holds.
abbrev pub Decided : Type 0 → Bool → Type 0
Decided P true = P
Decided P false = P → ⊥

-- The question at place m holds under the assignment.
abbrev pub HoldsAt : Tables → List ℕ → ℕ → Type 0
HoldsAt t assignment m = Subsumed t assignment (left_of t.questions m) (right_of t.questions m)

-- What the one takes, the other takes.
abbrev pub Within : List ℕ → List ℕ → Type 0
Within small large = (k q : ℕ) → takes small k q ≡ true → takes large k q ≡ true

-- The assignment takes what the low side takes, and the high side takes what the assignment takes.
pub record Between (low high assignment : List ℕ) : Type 0 where
  pub above : Within low assignment
  pub below : Within assignment high

-- What is asked of an assignment: it makes the questions hold that the problem asks, and takes for no variable more atoms than the
-- problem says.
pub record Meets (t : Tables) (problem assignment : List ℕ) : Type 0 where
  pub solves : SolvesAmong (AskedAt problem) t assignment
  pub few : (k : ℕ) → size (get_or assignment k 0) ≤ most_at problem k

-- A solution between the two sides.
pub record SolutionIn (t : Tables) (problem low high choice : List ℕ) : Type 0 where
  pub long : length choice ≡ 8
  pub between : Between low high choice
  pub meets : Meets t problem (take t.variables choice)

-- No accepted assignment between the two sides is a solution.
abbrev pub NoSolution : Tables → List ℕ → List ℕ → List ℕ → Type 0
NoSolution t problem low high =
    (other : List ℕ) → assignment_fault t other ≡ Done → Between (take t.variables low) (take t.variables high) other
    → Meets t problem other → ⊥
