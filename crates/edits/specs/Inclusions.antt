-- What adding inclusions can move (02, A.13): no yes becomes a no, and a filled card stays filled.
use Rattle.std.specs.Prelude.{ℕ, ◌<◌, ◌≤◌, ◌≡◌, List, true, length, get_or}
use Rattle.subsumption.specs.Tables.{Tables}
use Rattle.subsumption.specs.Atoms.{atoms, bit}
use Rattle.subsumption.specs.Subsumption.{Subsumed}
use Rattle.subsumption.specs.Refusal.{Reply, reply_done, Done}
use Rattle.subsumption.specs.Check.{assignment_fault}
use Rattle.subsumption.specs.Decide.{Decides}
use Rattle.settings.specs.Settings.{Settings, settings_fault}
use Rattle.matching.specs.Find.{Finds}
use Rattle.matching.specs.Within.{FindsWithin}
use Rattle.allowance.specs.Find.{FindsCounted}
use Rattle.incremental.specs.Fresh.{SameChoices}
use Rattle.edits.specs.Edits.{MoreInclusions}

-- Every assignment of the older tables can be kept: one of the newer chooses the same ids.
pub record KeptBy (older newer : Tables) (assignment : List ℕ) : Type 0 where
  pub kept : List ℕ
  pub accepted : assignment_fault newer kept ≡ Done
  pub same : SameChoices older assignment newer kept

abbrev pub IdsCanBeKept : Type 0
IdsCanBeKept =
    (older newer : Tables) → MoreInclusions older newer → (assignment : List ℕ) → assignment_fault older assignment ≡ Done
    → KeptBy older newer assignment

-- With the chosen ids kept, no yes becomes a no.
abbrev pub YesStays : Type 0
YesStays =
    (older newer : Tables) → MoreInclusions older newer → (a b : List ℕ) → SameChoices older a newer b
    → (i j : ℕ) → Subsumed older a i j → Subsumed newer b i j

-- The same of the answers for one pair.
abbrev pub DecidedYesStays : Type 0
DecidedYesStays =
    (older newer : Tables) → MoreInclusions older newer → (a b : List ℕ) → SameChoices older a newer b → assignment_fault newer b ≡ Done
    → (i j : ℕ) (was is : Reply) → Decides older a i j was → Decides newer b i j is → was ≡ reply_done 1 → is ≡ reply_done 1

-- The settings bar no atom.
abbrev pub BarsNothing : Tables → Settings → Type 0
BarsNothing t s = (k q : ℕ) → k < t.variables → q < length (atoms t) → bit (get_or s.permitted k 0) q ≡ true

-- A filled card stays filled, where the largest counts stay and no atom is barred.
abbrev pub FilledStays : Type 0
FilledStays =
    (older newer : Tables) → MoreInclusions older newer → (s s' : Settings) → s'.largest ≡ s.largest → BarsNothing newer s'
    → settings_fault newer s' ≡ Done → (before after before' after' : List ℕ) (was is : Reply) → FindsWithin older s before after was
    → FindsWithin newer s' before' after' is → newer.variables ≤ length before' → was ≡ reply_done 0 → is ≡ reply_done 0

-- The same without settings.
abbrev pub FoundStays : Type 0
FoundStays =
    (older newer : Tables) → MoreInclusions older newer → (before after before' after' : List ℕ) (was is : Reply)
    → Finds older before after was
    → Finds newer before' after' is → newer.variables ≤ length before' → was ≡ reply_done 0 → is ≡ reply_done 0

-- The same on an allowance that suffices: the answer is not that it is spent.
abbrev pub CountedStays : Type 0
CountedStays =
    (older newer : Tables) → MoreInclusions older newer → (s s' : Settings) → s'.largest ≡ s.largest → BarsNothing newer s'
    → settings_fault newer s' ≡ Done → (allowance allowance' : ℕ) (before after before' after' : List ℕ) (was is : Reply)
    → FindsCounted older s allowance before after was → FindsCounted newer s' allowance' before' after' is
    → newer.variables ≤ length before'
    → was.number ≡ 0 → (is.number ≡ 14 → ⊥) → is.number ≡ 0
