-- Showing an interpretation where a pair fails (02, A.5): its rows in front of the buffer, or a refusal.
use Rattle.std.specs.Prelude.{ℕ, ◌≡◌, List, ◌++◌, Bool, length, drop, Err, Ok}
use Rattle.subsumption.specs.declared.refusal.Refusal.TheVariants.{NoCountermodel}
use Rattle.subsumption.specs.Tables.{Tables, count_of}
use Rattle.subsumption.specs.Refusal.{Reply, reply_with, or_else, refuse_if, Outcome, Done}
use Rattle.subsumption.specs.Check.{buffer_fault}
use Rattle.subsumption.specs.Decide.{deciding_fault}
use Rattle.countermodel.specs.Rows.{rows_of, interpretation_of}
use Rattle.countermodel.specs.Countermodel.{Exactly, shown_rows, Refutes}

-- Check 15, by the marks: the pair holds, so there is nothing to show.
unfoldable pub holding_fault : (ℕ → ℕ → Bool) → ℕ → ℕ → Outcome
holding_fault marks left right = refuse_if (marks left right) NoCountermodel

-- The checks 1 to 7, then 9, then 15, then 8: the buffer wants four numbers a row.
unfoldable pub showing_fault : Tables → List ℕ → ℕ → ℕ → (ℕ → ℕ → Bool) → ℕ → Outcome
showing_fault t assignment left right marks size =
    or_else (deciding_fault t assignment left right)
    (or_else (holding_fault marks left right) (buffer_fault (length (shown_rows t.concepts t.roles marks)) size))

-- The value is how many rows there are; the elements are the concepts.
-- The rows stand in front; past them, and after a refusal, the buffer keeps its values.
unfoldable pub shown_in : Outcome → List ℕ → List ℕ → List ℕ
shown_in (Ok tt) rows before = rows ++ drop (length rows) before
shown_in (Err r) rows before = before

-- By marks that say exactly what is below what: 15 exactly when the pair holds, else the rows that they give, whose interpretation
-- refutes it.
pub record Shows (t : Tables) (assignment : List ℕ) (left right : ℕ) (before after : List ℕ) (reply : Reply) : Type 0 where
  pub marks : ℕ → ℕ → Bool
  pub exactly : deciding_fault t assignment left right ≡ Done → Exactly t assignment marks
  pub replied :
      reply ≡ reply_with (showing_fault t assignment left right marks (length before)) (rows_of (shown_rows t.concepts t.roles marks))
  pub shown : after ≡ shown_in (showing_fault t assignment left right marks (length before)) (shown_rows t.concepts t.roles marks) before
  pub refutes :
      showing_fault t assignment left right marks (length before) ≡ Done
      → Refutes t assignment left right (interpretation_of (count_of t.concepts) (shown_rows t.concepts t.roles marks))
