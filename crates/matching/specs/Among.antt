-- Finding an assignment that makes some of the questions hold (02, A.10): those that are asked. The atoms are those of all of them.
use Rattle.subsumption.specs.Refusal.{Done}
use Rattle.std.specs.Prelude.{ℕ, ◌<◌, ◌≡◌, List, ◌⊎◌, length, take, drop}
use Rattle.subsumption.specs.Tables.{Tables, pairs_of, left_of, right_of}
use Rattle.subsumption.specs.Subsumption.{Interpretation, Reading, assigned, SubsumedBy}
use Rattle.subsumption.specs.Check.{assignment_fault}
use Rattle.settings.specs.Settings.{Settings, Heeds, Unrestricted}
use Rattle.matching.specs.Solving.{Earlier, Substitution, substituted}

-- The asked questions hold, with the variables read so.
abbrev pub SolvedAmong : (ℕ → Type 0) → Tables → (Interpretation → Reading) → Type 0
SolvedAmong asked t reading =
    (m : ℕ) → m < pairs_of t.questions → asked m → SubsumedBy t reading (left_of t.questions m) (right_of t.questions m)

abbrev pub SolvesAmong : (ℕ → Type 0) → Tables → List ℕ → Type 0
SolvesAmong asked t assignment = SolvedAmong asked t (assigned t assignment)

-- The first assignment within the settings that makes them hold.
pub record FirstAmong (asked : ℕ → Type 0) (t : Tables) (s : Settings) (assignment : List ℕ) : Type 0 where
  pub accepted : assignment_fault t assignment ≡ Done
  pub heeds : Heeds s assignment
  pub solves : SolvesAmong asked t assignment
  pub first :
      (other : List ℕ) → assignment_fault t other ≡ Done → Heeds s other → SolvesAmong asked t other → (other ≡ assignment)
      ⊎ Earlier assignment other

-- No assignment within the settings makes them hold.
abbrev pub NoneAmong : (ℕ → Type 0) → Tables → Settings → Type 0
NoneAmong asked t s = (other : List ℕ) → assignment_fault t other ≡ Done → Heeds s other → SolvesAmong asked t other → ⊥

-- It is written, one number a variable; the rest of the buffer keeps its values.
pub record FilledAmong (asked : ℕ → Type 0) (t : Tables) (s : Settings) (before after : List ℕ) : Type 0 where
  pub size : length after ≡ length before
  pub first : FirstAmong asked t s (take t.variables after)
  pub rest : drop t.variables after ≡ drop t.variables before

-- There is none, and where the settings permit all, no substitution makes them hold; nothing is written.
pub record UnfilledAmong (asked : ℕ → Type 0) (t : Tables) (s : Settings) (before after : List ℕ) : Type 0 where
  pub none : NoneAmong asked t s
  pub by-substitution : Unrestricted t s → (σ : Substitution t) → SolvedAmong asked t (substituted σ.concept) → ⊥
  pub kept : after ≡ before
