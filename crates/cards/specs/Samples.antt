-- The sample cards A to L (01, "Sample cards, proved") and M to O of the requests (02), as one table of sentences on the definitions.
use Rattle.subsumption.specs.Refusal.{Done}
use Rattle.std.specs.Prelude.{ℕ, ◌≡◌, List, [], ◌∷◌}
use Rattle.subsumption.specs.Tables.{Tables, tables}
use Rattle.subsumption.specs.Atoms.{atoms}
use Rattle.subsumption.specs.Subsumption.{Subsumed}
use Rattle.subsumption.specs.Check.{table_fault, assignment_fault}
use Rattle.settings.specs.Settings.{Settings, settings}
use Rattle.matching.specs.Solving.{Substitution, SolvesBy, First}

-- What a card says of its tables: a pair is below under every accepted assignment, or under none; it is below under one assignment, or is
-- not; which the atoms are; the first assignment that solves; that no substitution of any size solves (01: refusal 10).
pub data Saying : Type 0 where
  always_below : ℕ → ℕ → Saying
  never_below : ℕ → ℕ → Saying
  below : List ℕ → ℕ → ℕ → Saying
  not_below : List ℕ → ℕ → ℕ → Saying
  parts : List ℕ → Saying
  filling : List ℕ → Saying
  no_filling : Saying

abbrev pub Says : Tables → Saying → Type 0
Says t (always_below i j) = (assignment : List ℕ) → assignment_fault t assignment ≡ Done → Subsumed t assignment i j
Says t (never_below i j) = (assignment : List ℕ) → assignment_fault t assignment ≡ Done → Subsumed t assignment i j → ⊥
Says t (below assignment i j) = (assignment_fault t assignment ≡ Done) × Subsumed t assignment i j
Says t (not_below assignment i j) = (assignment_fault t assignment ≡ Done) × (Subsumed t assignment i j → ⊥)
Says t (parts ids) = atoms t ≡ ids
Says t (filling assignment) = First t assignment
Says t no_filling = (σ : Substitution t) → SolvesBy t σ → ⊥

-- The cards' letters.
pub data Letter : Type 0 where
  A B C D E F G H I J K L M N O : Letter

pub record Card : Type 0 where
  pub letter : Letter
  pub tables : Tables
  pub saying : Saying

-- The tables are accepted, and what the card says is true.
abbrev pub Holds : Card → Type 0
Holds card = (table_fault card.tables ≡ Done) × Says card.tables card.saying

-- The entries and the inclusion of the house text.
unfoldable pub entries : List ℕ
entries = 1 ∷ 5 ∷ 0 ∷ 1 ∷ 7 ∷ 0 ∷ 2 ∷ 1 ∷ 0 ∷ 1 ∷ 9 ∷ 0 ∷ 4 ∷ 0 ∷ 0 ∷ 3 ∷ 1 ∷ 4 ∷ []

unfoldable pub house : List ℕ → Tables
house questions = tables entries (2 ∷ 3 ∷ []) questions [] 1

-- The tables of cards K and L.
unfoldable pub looped : Tables
looped = tables (1 ∷ 1 ∷ 0 ∷ 2 ∷ 0 ∷ 0 ∷ 2 ∷ 0 ∷ 1 ∷ []) (0 ∷ 1 ∷ []) [] [] 0

-- Twins (02, A.2): 0 is a copy of 2, and stands in no inclusion itself.
unfoldable pub copied : Tables
copied = tables (1 ∷ 5 ∷ 0 ∷ 1 ∷ 7 ∷ 0 ∷ 1 ∷ 5 ∷ 0 ∷ []) (1 ∷ 2 ∷ []) [] [] 0

-- Roles (02, A.6): 1 and 2 are "some" of 0, by a narrow role and by the wide one above it.
unfoldable pub narrowed : Tables
narrowed = tables (1 ∷ 5 ∷ 0 ∷ 2 ∷ 3 ∷ 0 ∷ 2 ∷ 4 ∷ 0 ∷ []) [] [] (3 ∷ 4 ∷ []) 0

unfoldable pub questions : List ℕ
questions = 5 ∷ 3 ∷ 2 ∷ 4 ∷ []

abbrev pub card : Letter → Tables → Saying → Card
card letter t saying = record { letter = letter; tables = t; saying = saying }

-- The cards. A choice is written as its number: position 0 is id 0, position 1 is id 2, position 2 is id 3.
unfoldable pub cards : List Card
cards =
    card A (house questions) (always_below 2 3)
    ∷ card B (house questions) (never_below 3 2)
    ∷ card C (house questions) (below (4 ∷ []) 5 3)
    ∷ card D (house questions) (not_below (0 ∷ []) 5 3)
    ∷ card E (house questions) (below (0 ∷ []) 0 4)
    ∷ card F (house questions) (below (1 ∷ []) 4 0)
    ∷ card G (house questions) (parts (0 ∷ 2 ∷ 3 ∷ []))
    ∷ card H (house questions) (filling (4 ∷ []))
    ∷ card I (house (5 ∷ 3 ∷ 0 ∷ 4 ∷ [])) no_filling
    ∷ card J (house []) (filling (0 ∷ []))
    ∷ card K looped (always_below 0 2)
    ∷ card L looped (never_below 1 0)
    ∷ card M copied (parts (0 ∷ 1 ∷ []))
    ∷ card N narrowed (always_below 1 2)
    ∷ card O narrowed (never_below 2 1)
    ∷ []

-- Settings of the sample problem that permit every atom, and 64 of them (02, A.4: its count is 4).
abbrev pub free : Settings
free = settings (7 ∷ []) (64 ∷ [])
