-- What the operations know once the atoms are listed, and the checks of those that list them on the way (src/listing.rt).
use Rattle.std.specs.Prelude.{ℕ, ◌≡◌, List}
use Rattle.subsumption.specs.Tables.{Tables, tables}
use Rattle.subsumption.specs.Atoms.{atoms}
use Rattle.subsumption.specs.Refusal.{or_else, Outcome, Done}
use Rattle.subsumption.specs.Check.{use_fault, table_fault, pair_fault, buffer_fault}

-- The tables are accepted, and these are their atoms.
pub record Accepted (t : Tables) (ids : List ℕ) : Type 0 where
  pub passed : table_fault t ≡ Done
  pub listed : ids ≡ atoms t

-- They are so with some questions. What is left to do reads no question.
pub record Prepared (concepts inclusions roles : List ℕ) (variables : ℕ) (ids : List ℕ) : Type 0 where
  pub questions : List ℕ
  pub accepted : Accepted (tables concepts inclusions questions roles variables) ids

-- Whatever questions they are accepted with.
abbrev pub ForAccepted : List ℕ → List ℕ → List ℕ → ℕ → List ℕ → (Tables → Type 0) → Type 0
ForAccepted concepts inclusions roles variables ids Holds =
    (questions : List ℕ) → Accepted (tables concepts inclusions questions roles variables) ids
    → Holds (tables concepts inclusions questions roles variables)

-- Listing the atoms of tables with an asked pair.
unfoldable pub asked_fault : Tables → ℕ → ℕ → ℕ → Outcome
asked_fault t left right size = or_else (pair_fault t left right) (buffer_fault 64 size)

-- Checks 5 to 8, with the atoms listed.
unfoldable pub used_fault : Tables → ℕ → Outcome
used_fault t size = or_else (use_fault t) (buffer_fault 64 size)
