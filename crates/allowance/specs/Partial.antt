-- Partial choices (02, A.4): what they settle, their order, and which are open.
use Rattle.subsumption.specs.Refusal.{Done}
use Rattle.std.specs.Prelude.{ℕ, zero, suc, ◌+◌, ◌*◌, ◌<◌, ◌≡◌, List, [], ◌∷◌, ◌++◌, Bool, true, false, cond, eqb, length}
use Rattle.subsumption.specs.Tables.{Tables, pairs_of, left_of, right_of, tree, has_variable}
use Rattle.subsumption.specs.Atoms.{atoms}
use Rattle.subsumption.specs.Subsumption.{Subsumed}
use Rattle.subsumption.specs.Check.{assignment_fault}
use Rattle.settings.specs.Settings.{Settings, Heeds}
use Rattle.matching.specs.Solving.{takes}

-- A partial choice settles the first pairs (variable, position) of the order of assignments: it says of each, the last one first,
-- whether the atom is taken. Whether pair p is taken, where the unsettled ones are as `rest` says:
unfoldable pub settled : List Bool → Bool → ℕ → Bool
settled [] rest p = rest
settled (taken ∷ s) rest p = cond (eqb p (length s)) taken (settled s rest p)

-- How many pairs there are.
abbrev pub pairs : Tables → ℕ
pairs t = t.variables * length (atoms t)

-- The assignment that takes what is settled so, and of the unsettled atoms those that `rest` says.
pub record Completed (t : Tables) (s : List Bool) (rest : ℕ → ℕ → Bool) (assignment : List ℕ) : Type 0 where
  pub accepted : assignment_fault t assignment ≡ Done
  pub taken :
      (k q : ℕ) → k < t.variables → q < length (atoms t) → takes assignment k q ≡ settled s (rest k q) (k * length (atoms t) + q)

-- The questions of one kind hold: those whose right side holds a variable, or those whose right side holds none.
abbrev pub Asked : Tables → Bool → List ℕ → Type 0
Asked t right assignment =
    (m : ℕ) → m < pairs_of t.questions → has_variable (tree t.concepts (right_of t.questions m)) ≡ right
    → Subsumed t assignment (left_of t.questions m) (right_of t.questions m)

-- Open: what is taken is within the settings, the questions without a variable on the right hold with the permitted unsettled atoms
-- taken, and the others with them left out.
pub record Open (t : Tables) (settings : Settings) (s : List Bool) : Type 0 where
  pub low : List ℕ
  pub high : List ℕ
  pub left_out : Completed t s (λ k q. false) low
  pub taken : Completed t s (takes settings.permitted) high
  pub heeds : Heeds settings low
  pub fewer : Asked t true low
  pub more : Asked t false high

-- The partial choices in their order, from one on that leaves so many pairs unsettled: a shorter one before its extensions, left
-- out before taken.
unfoldable pub partials : ℕ → List Bool → List (List Bool)
partials zero s = s ∷ []
partials (suc rest) s = s ∷ (partials rest (false ∷ s) ++ partials rest (true ∷ s))

unfoldable pub all_partials : Tables → List (List Bool)
all_partials t = partials (pairs t) []
