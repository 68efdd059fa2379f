-- The subsumption table (01: the below table): rows of 24 bytes, bit j of row i says that i is below j.
use Rattle.std.specs.Prelude.{ℕ, zero, suc, ◌+◌, ◌*◌, ◌/◌, ◌%◌, ◌<◌, ◌≤◌, ◌≡◌, List, Bool, true, false, length, get_or, Ok, Err}
use Rattle.subsumption.specs.Tables.{Tables, count_of}
use Rattle.subsumption.specs.Atoms.{bit}
use Rattle.subsumption.specs.Subsumption.{Subsumed}
use Rattle.subsumption.specs.Refusal.{Reply, reply_with, or_else, Outcome}
use Rattle.subsumption.specs.Check.{table_fault, assignment_fault, buffer_fault}

-- Where row i starts.
unfoldable pub row_start : ℕ → ℕ
row_start i = i * 24

-- Bit j mod 8 of byte j div 8 of row i, lowest bit first.
unfoldable pub marked : List ℕ → ℕ → ℕ → Bool
marked bytes i j = bit (get_or bytes (row_start i + j / 8) 0) (j % 8)

unfoldable pub one : Bool → ℕ
one true = 1
one false = 0

-- How many numbers below n pass the test.
unfoldable pub counted : (ℕ → Bool) → ℕ → ℕ
counted test zero = 0
counted test (suc n) = one (test n) + counted test n

unfoldable pub total : (ℕ → ℕ) → ℕ → ℕ
total f zero = 0
total f (suc n) = f n + total f n

-- The ones in that many rows, column by column of all 192.
unfoldable pub marks_in : ℕ → List ℕ → ℕ
marks_in count bytes = total (λ j. counted (λ i. marked bytes i j) count) 192

unfoldable pub writing_fault : Tables → List ℕ → ℕ → Outcome
writing_fault t assignment size =
    or_else (table_fault t) (or_else (assignment_fault t assignment) (buffer_fault (row_start (count_of t.concepts)) size))

-- What the buffer holds after: exactly the pairs that are below, other bits of the rows 0, bytes past the last row as before.
pub record TableOf (t : Tables) (assignment : List ℕ) (before after : List ℕ) : Type 0 where
  pub size : length after ≡ length before
  pub sound : (i j : ℕ) → i < count_of t.concepts → j < count_of t.concepts → marked after i j ≡ true → Subsumed t assignment i j
  pub complete : (i j : ℕ) → i < count_of t.concepts → j < count_of t.concepts → Subsumed t assignment i j → marked after i j ≡ true
  pub zero : (i j : ℕ) → i < count_of t.concepts → count_of t.concepts ≤ j → j < 192 → marked after i j ≡ false
  pub rest : (p : ℕ) → row_start (count_of t.concepts) ≤ p → get_or after p 0 ≡ get_or before p 0

-- A refusal leaves the buffer as it was.
abbrev pub Left : Tables → List ℕ → List ℕ → List ℕ → Outcome → Type 0
Left t assignment before after (Ok tt) = TableOf t assignment before after
Left t assignment before after (Err r) = after ≡ before

pub record Wrote (t : Tables) (assignment : List ℕ) (before after : List ℕ) (reply : Reply) : Type 0 where
  pub replied : reply ≡ reply_with (writing_fault t assignment (length before)) (marks_in (count_of t.concepts) after)
  pub left : Left t assignment before after (writing_fault t assignment (length before))
