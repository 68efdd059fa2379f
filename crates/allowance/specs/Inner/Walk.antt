-- What the walk over the partial choices promises (src/walk.rt).
use Rattle.subsumption.specs.Refusal.{Done}
use Rattle.std.specs.Prelude.{ℕ, suc, ◌*◌, ◌<◌, ◌≤◌, ◌≡◌, List, Bool, length, get_or}
use Rattle.subsumption.specs.Tables.{Tables}
use Rattle.subsumption.specs.Atoms.{atoms}
use Rattle.settings.specs.Settings.{Settings, settings_fault}
use Rattle.settings.specs.Inner.Check.{Loaded}
use Rattle.matching.specs.Inner.Search.{Decided}
use Rattle.matching.specs.Inner.Search.Problem.{Problem, most_at}
use Rattle.allowance.specs.Partial.{Open, all_partials}
use Rattle.allowance.specs.Count.{Stretch, Answered, Exceeds}
use Rattle.allowance.specs.declared.walk.Ending.{Ending}
use Rattle.allowance.specs.declared.walk.Ending.TheVariants.{Found, Spent, Absent}
use Rattle.allowance.specs.Inner.Place.{At}
use Rattle.allowance.specs.Inner.Kept.{Kept, AllAsked}

-- The tables and settings that the walk is lent as sets, numbers and a permitted high side.
pub record Lent (t : Tables) (settings : Settings) (sets problem permitted : List ℕ) (count : ℕ) : Type 0 where
  pub problem-of : Problem t sets problem
  pub all_asked : AllAsked t problem
  pub set : settings_fault t settings ≡ Done
  pub loaded : Loaded settings.permitted permitted
  pub counts : (k : ℕ) → k < t.variables → most_at problem k ≡ get_or settings.largest k 0
  pub many : length (atoms t) ≡ count

-- Whether a partial choice is open, whatever it and the tables are.
abbrev pub OpenedBy : List ℕ → List ℕ → List ℕ → List ℕ → List ℕ → List ℕ → List ℕ → Bool → Type 0
OpenedBy sets problem permitted low high before after answer =
    (count : ℕ) (t : Tables) (settings : Settings) (s : List Bool) → Lent t settings sets problem permitted count
    → At t.variables count permitted low high s → Kept t before
    → Decided (Open t settings s) answer × Kept t after

-- The words are those of the first answer.
pub record FoundAt (t : Tables) (settings : Settings) (permitted choice : List ℕ) (count met : ℕ) : Type 0 where
  pub high : List ℕ
  pub s : List Bool
  pub before : ℕ
  pub counted : met ≡ suc before
  pub words : At t.variables count permitted choice high s
  pub first : Answered t settings before s

-- The answer and how many open ones were met up to it; or all of them, without an answer; or one more than the allowance.
abbrev pub WalkedTo : Tables → Settings → List ℕ → ℕ → ℕ → Ending → ℕ → Type 0
WalkedTo t settings permitted count allowance (Found choice) met = FoundAt t settings permitted choice count met × (met ≤ allowance)
WalkedTo t settings permitted count allowance Spent met = Exceeds t settings allowance × (met ≡ allowance)
WalkedTo t settings permitted count allowance Absent met = Stretch t settings (all_partials t) met × (met ≤ allowance)

abbrev pub Walked : List ℕ → List ℕ → List ℕ → ℕ → ℕ → ℕ → Ending → ℕ → Type 0
Walked sets problem permitted count pairs allowance ending met =
    (t : Tables) (settings : Settings) → Lent t settings sets problem permitted count → t.variables * count ≡ pairs
    → WalkedTo t settings permitted count allowance ending met
