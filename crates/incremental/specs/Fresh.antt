-- An updated table beside one made afresh (02, A.7): what the law `update-fresh` speaks of.
use Rattle.subsumption.specs.Refusal.{Done}
use Rattle.std.specs.Prelude.{ℕ, ◌<◌, ◌≡◌, ◌↔◌, get_or}
use mathlib.Core.List.{List, Memᴰ}
use Rattle.subsumption.specs.Tables.{Tables, tables, count_of, pairs_of, left_of, right_of}
use Rattle.subsumption.specs.Atoms.{chosen}
use Rattle.subsumption.specs.Table.{row_start, TableOf}
use Rattle.subsumption.specs.Check.{assignment_fault}
use Rattle.incremental.specs.Told.{told_assignment}

-- The same tables with other inclusions and questions.
abbrev pub with_others : Tables → List ℕ → List ℕ → Tables
with_others t inclusions questions = tables t.concepts inclusions questions t.roles t.variables

-- Every pair of one list is a pair of the other, at any place.
abbrev pub PairsAmong : List ℕ → List ℕ → Type 0
PairsAmong older newer =
    (m : ℕ) → m < pairs_of older → (n : ℕ) × (n < pairs_of newer) × (left_of newer n ≡ left_of older m) × (right_of newer n ≡ right_of older m)

-- Two assignments choose the same ids for each variable. The atoms of the tables may differ, and so the places of their bits.
abbrev pub SameChoices : Tables → List ℕ → Tables → List ℕ → Type 0
SameChoices t₀ α₀ t α = (k p : ℕ) → k < t.variables → Memᴰ p (chosen t₀ α₀ k) ↔ Memᴰ p (chosen t α k)

-- The held table was right with the older inclusions: every one of them is among the newer, the questions may be others, and each
-- variable chose the ids that are told now.
pub record RightBefore (t : Tables) (told inclusions₀ questions₀ assignment₀ held before : List ℕ) : Type 0 where
  pub among : PairsAmong inclusions₀ t.inclusions
  pub accepted : assignment_fault (with_others t inclusions₀ questions₀) assignment₀ ≡ Done
  pub same : SameChoices (with_others t inclusions₀ questions₀) assignment₀ t (told_assignment t told)
  pub right : TableOf (with_others t inclusions₀ questions₀) assignment₀ held before

-- Each number is a byte's.
abbrev pub Bytes : List ℕ → Type 0
Bytes table = (p : ℕ) → get_or table p 0 < 256

-- The bytes of the rows are the same.
abbrev pub SameRows : Tables → List ℕ → List ℕ → Type 0
SameRows t one other = (p : ℕ) → p < row_start (count_of t.concepts) → get_or one p 0 ≡ get_or other p 0
