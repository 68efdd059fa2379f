-- Finding an assignment for each of several question tables on one allowance (02, A.11).
use Rattle.std.specs.Prelude.{ℕ, ◌*◌, ◌<◌, ◌≤◌, ◌≡◌, List, length, get_or, drop, Err, Ok}
use Rattle.subsumption.specs.declared.refusal.Refusal.{Refusal}
use Rattle.subsumption.specs.Tables.{Tables}
use Rattle.subsumption.specs.Refusal.{Reply, reply_done, code_of, Outcome}
use Rattle.allowance.specs.Find.{FindsCounted}
use Rattle.batches.specs.declared.find.Batch.{Batch}
use Rattle.batches.specs.Batch.{tables_of, unrestricted, stretch, left_after, amount, batch_fault}

-- What table k is told: the value is its count.
abbrev pub reply_at : Batch → ℕ → Reply
reply_at b k = record { number = get_or b.numbers k 0; place = get_or b.places k 0; value = get_or b.counts k 0 }

-- Each table has the answer that it has alone, with its share and what those before it left over, on its stretch of the buffer.
pub record Ran (t : Tables) (lengths shares before after : List ℕ) (b : Batch) : Type 0 where
  pub number : b.number ≡ 0
  pub place : b.place ≡ 0
  pub each :
      (k : ℕ) → k < length lengths
      → FindsCounted (tables_of t lengths k) (unrestricted (tables_of t lengths k)) (amount shares b.counts k)
      (stretch t.variables before k) (stretch t.variables after k) (reply_at b k)
  pub none : (k : ℕ) → length lengths ≤ k → reply_at b k ≡ reply_done 0
  pub left : b.left ≡ left_after shares b.counts (length lengths)
  pub size : length after ≡ length before
  pub rest : drop (length lengths * t.variables) after ≡ drop (length lengths * t.variables) before

-- The whole is refused: nothing is told of any table, and nothing is written.
pub record Refuses (r : Refusal) (before after : List ℕ) (b : Batch) : Type 0 where
  pub number : b.number ≡ (code_of r).number
  pub place : b.place ≡ (code_of r).place
  pub none : (k : ℕ) → reply_at b k ≡ reply_done 0
  pub left : b.left ≡ 0
  pub kept : after ≡ before

abbrev pub FindsBatchAfter : Outcome → Tables → List ℕ → List ℕ → List ℕ → List ℕ → Batch → Type 0
FindsBatchAfter (Ok tt) t lengths shares before after b = Ran t lengths shares before after b
FindsBatchAfter (Err r) t lengths shares before after b = Refuses r before after b

abbrev pub FindsBatch : Tables → List ℕ → List ℕ → List ℕ → List ℕ → Batch → Type 0
FindsBatch t lengths shares before after b =
    FindsBatchAfter (batch_fault lengths shares (length t.questions)) t lengths shares before after b
