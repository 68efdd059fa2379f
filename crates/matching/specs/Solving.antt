-- Assignments and substitutions that make every question hold, and the order of assignments (01, "Tables" and "Below").
use Rattle.subsumption.specs.Refusal.{Done}
use Rattle.std.specs.Prelude.{ℕ, ◌<◌, ◌≡◌, List, Bool, true, false, ◌⊎◌, get_or}
use Rattle.subsumption.specs.Tables.{Tables, pairs_of, left_of, right_of, Concept, has_variable}
use Rattle.subsumption.specs.Atoms.{bit}
use Rattle.subsumption.specs.Subsumption.{Interpretation, Reading, Member, no_variables, assigned, SubsumedBy}
use Rattle.subsumption.specs.Check.{assignment_fault}

-- Every question holds, with the variables read so.
abbrev pub Solved : Tables → (Interpretation → Reading) → Type 0
Solved t reading = (m : ℕ) → m < pairs_of t.questions → SubsumedBy t reading (left_of t.questions m) (right_of t.questions m)

-- An assignment (01: a filling) that makes every question hold.
abbrev pub Solves : Tables → List ℕ → Type 0
Solves t assignment = Solved t (assigned t assignment)

-- A substitution (01: a replacement) gives each variable one variable-free concept, of any size, names and roles.
pub record Substitution (t : Tables) : Type 0 where
  pub concept : ℕ → Concept
  pub variable-free : (k : ℕ) → k < t.variables → has_variable (concept k) ≡ false

abbrev pub substituted : (ℕ → Concept) → Interpretation → Reading
substituted concept I k x = Member I no_variables (concept k) x

abbrev pub SolvesBy : (t : Tables) → Substitution t → Type 0
SolvesBy t σ = Solved t (substituted σ.concept)

-- The assignment takes the atom at the position for the variable.
abbrev pub takes : List ℕ → ℕ → ℕ → Bool
takes assignment k q = bit (get_or assignment k 0) q

-- Look at the pairs (variable, position), variable 0 first and positions rising: at the first pair where the two differ, the
-- earlier leaves the atom out.
pub record Earlier (earlier later : List ℕ) : Type 0 where
  pub variable : ℕ
  pub position : ℕ
  pub left_out : takes earlier variable position ≡ false
  pub taken : takes later variable position ≡ true
  pub same-variables : (k q : ℕ) → k < variable → takes earlier k q ≡ takes later k q
  pub same-positions : (q : ℕ) → q < position → takes earlier variable q ≡ takes later variable q

-- The first assignment that solves: it is accepted, and every other accepted one that solves comes later.
pub record First (t : Tables) (assignment : List ℕ) : Type 0 where
  pub accepted : assignment_fault t assignment ≡ Done
  pub solves : Solves t assignment
  pub first : (other : List ℕ) → assignment_fault t other ≡ Done → Solves t other → (other ≡ assignment) ⊎ Earlier assignment other
