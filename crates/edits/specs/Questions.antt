-- What adding questions can move that bring no atom (02, A.13): the filling stays, moves later, or is gone; a "none" stays.
use Rattle.std.specs.Prelude.{ℕ, ◌≤◌, ◌≡◌, List, ◌⊎◌, length, take}
use Rattle.subsumption.specs.declared.refusal.Refusal.TheVariants.{NoAssignment}
use Rattle.subsumption.specs.Tables.{Tables}
use Rattle.subsumption.specs.Refusal.{Reply, reply_done, reply_refused, Done}
use Rattle.settings.specs.Settings.{Settings, settings_fault}
use Rattle.matching.specs.Solving.{Earlier}
use Rattle.matching.specs.Find.{Finds}
use Rattle.matching.specs.Within.{FirstWithin, FindsWithin}
use Rattle.allowance.specs.Find.{FindsCounted}
use Rattle.edits.specs.Edits.{MoreQuestions}

-- The newer assignment is the older one or comes later in the order.
abbrev pub StaysOrLater : List ℕ → List ℕ → Type 0
StaysOrLater older newer = (newer ≡ older) ⊎ Earlier older newer

-- Of the tables.
abbrev pub FirstMovesLater : Type 0
FirstMovesLater =
    (older newer : Tables) → MoreQuestions older newer → (s : Settings) (a b : List ℕ) → FirstWithin older s a
    → FirstWithin newer s b → StaysOrLater a b

-- Of the answers: the new one is none, or both are filled and the filling stays or moves later. So a none stays.
abbrev pub WithinMovesLater : Type 0
WithinMovesLater =
    (older newer : Tables) → MoreQuestions older newer → (s : Settings) → settings_fault older s ≡ Done
    → (before after before' after' : List ℕ) (was is : Reply) → FindsWithin older s before after was → FindsWithin newer s before' after' is
    → older.variables ≤ length before → older.variables ≤ length before'
    → (is ≡ reply_refused NoAssignment)
    ⊎ ((was ≡ reply_done 0) × (is ≡ reply_done 0) × StaysOrLater (take older.variables after) (take older.variables after'))

abbrev pub FoundMovesLater : Type 0
FoundMovesLater =
    (older newer : Tables) → MoreQuestions older newer → (before after before' after' : List ℕ) (was is : Reply)
    → Finds older before after was
    → Finds newer before' after' is → older.variables ≤ length before → older.variables ≤ length before'
    → (is ≡ reply_refused NoAssignment)
    ⊎ ((was ≡ reply_done 0) × (is ≡ reply_done 0) × StaysOrLater (take older.variables after) (take older.variables after'))

-- On allowances that suffice: neither answer is that it is spent.
abbrev pub CountedMovesLater : Type 0
CountedMovesLater =
    (older newer : Tables) → MoreQuestions older newer → (s : Settings) → settings_fault older s ≡ Done
    → (allowance allowance' : ℕ) (before after before' after' : List ℕ) (was is : Reply)
    → FindsCounted older s allowance before after was → FindsCounted newer s allowance' before' after' is
    → older.variables ≤ length before → older.variables ≤ length before' → (was.number ≡ 14 → ⊥) → (is.number ≡ 14 → ⊥)
    → (is.number ≡ 10)
    ⊎ ((was.number ≡ 0) × (is.number ≡ 0) × StaysOrLater (take older.variables after) (take older.variables after'))
