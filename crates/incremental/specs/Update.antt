-- Updating a held table (02, A.7): it becomes the smallest one that holds its own marks and is closed under the rules.
use Rattle.std.specs.Prelude.{ℕ, ◌<◌, ◌≤◌, ◌≡◌, List, Bool, true, length, get_or, Err, Ok}
use Rattle.subsumption.specs.Tables.{Tables, count_of}
use Rattle.subsumption.specs.Refusal.{Reply, reply_of, or_else, Outcome}
use Rattle.subsumption.specs.Check.{table_fault, buffer_fault}
use Rattle.subsumption.specs.Rules.{follows}
use Rattle.subsumption.specs.Table.{row_start, marked}
use Rattle.incremental.specs.Told.{told_fault, told_assignment}

-- The checks 1 to 7, then 9, then 8: the table wants entries × 24 bytes.
unfoldable pub updating_fault : Tables → List ℕ → ℕ → Outcome
updating_fault t told size = or_else (table_fault t) (or_else (told_fault t told) (buffer_fault (row_start (count_of t.concepts)) size))

-- Marks are closed under the rules when every line that follows from them is marked.
abbrev pub ClosedUnder : Tables → List ℕ → (ℕ → ℕ → Bool) → Type 0
ClosedUnder t assignment marks =
    (rule left right extra : ℕ) → follows t assignment marks rule left right extra ≡ true → marks left right ≡ true

-- One relation on the ids holds another.
abbrev pub Holds : Tables → (ℕ → ℕ → Bool) → (ℕ → ℕ → Bool) → Type 0
Holds t less more = (i j : ℕ) → i < count_of t.concepts → j < count_of t.concepts → less i j ≡ true → more i j ≡ true

-- What the table holds after: no mark is cleared; it is closed, and within every other closed relation that holds the old marks; bits
-- past the last column and bytes past the last row keep their values.
pub record ClosureOf (t : Tables) (assignment before after : List ℕ) : Type 0 where
  pub size : length after ≡ length before
  pub kept : Holds t (marked before) (marked after)
  pub closed : ClosedUnder t assignment (marked after)
  pub least : (marks : ℕ → ℕ → Bool) → ClosedUnder t assignment marks → Holds t (marked before) marks → Holds t (marked after) marks
  pub past : (i j : ℕ) → i < count_of t.concepts → count_of t.concepts ≤ j → j < 192 → marked after i j ≡ marked before i j
  pub rest : (p : ℕ) → row_start (count_of t.concepts) ≤ p → get_or after p 0 ≡ get_or before p 0

-- A refusal leaves the table as it was.
abbrev pub UpdatedBy : Outcome → Tables → List ℕ → List ℕ → List ℕ → Type 0
UpdatedBy (Ok tt) t told before after = ClosureOf t (told_assignment t told) before after
UpdatedBy (Err r) t told before after = after ≡ before

pub record Updates (t : Tables) (told before after : List ℕ) (reply : Reply) : Type 0 where
  pub replied : reply ≡ reply_of (updating_fault t told (length before))
  pub updated : UpdatedBy (updating_fault t told (length before)) t told before after
