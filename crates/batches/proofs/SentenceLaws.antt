-- What running several tables on one allowance comes to (02, A.11).
use Prim.Native.Nat.{ℕ, zero, suc, ◌+◌, ◌<◌, ◌≤◌}
use mathlib.Core.Path.{◌≡◌, refl, ap, ◌∙◌}
use mathlib.Core.List.{List}
use native.Mathlib.Omega.{arith}
use lib.ListN.{length, get_or}
use Rattle.subsumption.specs.Tables.{Tables, tables}
use Rattle.allowance.proofs.AllowanceLaws.{counted-unique}
use Rattle.batches.specs.declared.find.Batch.{Batch}
use Rattle.batches.specs.Batch.{total, questions_of, tables_of, unrestricted, stretch, left_after, amount}
use Rattle.batches.specs.Find.{reply_at, Ran}
use Rattle.batches.proofs.FindLaws.{answer-same, count-within, count-unused, refused-kept}

sum_to :
    (shares counts : List ℕ) (n : ℕ) → ((k : ℕ) → k < n → get_or counts k 0 ≤ amount shares counts k)
    → total counts n + left_after shares counts n ≡ total shares n
unfolding total left_after
sum_to shares counts zero h = omega arith
sum_to shares counts (suc n) h = omega (arith, sum_to shares counts n (λ k l. h k (omega arith)), h n (omega arith))

module _ (t : Tables) (lengths shares before after : List ℕ) (b : Batch) (r : Ran t lengths shares before after b) where
  within : (k : ℕ) → k < length lengths → get_or b.counts k 0 ≤ amount shares b.counts k
  within k l =
      count-within (tables_of t lengths k) (unrestricted (tables_of t lengths k)) (amount shares b.counts k) (stretch t.variables before k)
      (stretch t.variables after k) (reply_at b k) (r.each k l)

  -- The counts and what is left over at the end add up to the shares.
  pub sum_kept : total b.counts (length lengths) + b.left ≡ total shares (length lengths)
  sum_kept = ap (λ (z : ℕ). total b.counts (length lengths) + z) r.left ∙ sum_to shares b.counts (length lengths) within

  -- A table refused for anything but 10 or 14 uses nothing.
  pub refused-uses-nothing :
      (k : ℕ) → k < length lengths → ((reply_at b k).number ≡ 0 → ⊥) → ((reply_at b k).number ≡ 10 → ⊥) → ((reply_at b k).number ≡ 14 → ⊥)
      → (reply_at b k).value ≡ 0
  refused-uses-nothing k l =
      count-unused (tables_of t lengths k) (unrestricted (tables_of t lengths k)) (amount shares b.counts k) (stretch t.variables before k)
      (stretch t.variables after k) (reply_at b k) (r.each k l)

  -- The stretch of a refused table is as before.
  pub outside_kept : (k : ℕ) → k < length lengths → ((reply_at b k).number ≡ 0 → ⊥) → stretch t.variables after k ≡ stretch t.variables before k
  outside_kept k l =
      refused-kept (tables_of t lengths k) (unrestricted (tables_of t lengths k)) (amount shares b.counts k) (stretch t.variables before k)
      (stretch t.variables after k) (reply_at b k) (r.each k l)

-- One table changes another's answer only through the amount passed on: tables of any two batches over one catalogue have the same answer where
-- they have the same questions, the same amount and the same stretch.
module _ (concepts inclusions roles : List ℕ) (variables : ℕ) where
  pub alone :
      (questions lengths shares before after questions₁ lengths₁ shares₁ before₁ after₁ : List ℕ) (b b₁ : Batch)
      → Ran (tables concepts inclusions questions roles variables) lengths shares before after b
      → Ran (tables concepts inclusions questions₁ roles variables) lengths₁ shares₁ before₁ after₁ b₁ → (k k₁ : ℕ) → k < length lengths → k₁ < length lengths₁
      → questions_of questions lengths k ≡ questions_of questions₁ lengths₁ k₁ → amount shares b.counts k ≡ amount shares₁ b₁.counts k₁
      → stretch variables before k ≡ stretch variables before₁ k₁
      → (reply_at b k ≡ reply_at b₁ k₁) × (stretch variables after k ≡ stretch variables after₁ k₁)
  alone questions lengths shares before after questions₁ lengths₁ shares₁ before₁ after₁ b b₁ r r₁ k k₁ l l₁ e f g =
      counted-unique (tables concepts inclusions (questions_of questions₁ lengths₁ k₁) roles variables)
      (unrestricted (tables concepts inclusions (questions_of questions₁ lengths₁ k₁) roles variables)) (amount shares₁ b₁.counts k₁) (stretch variables before₁ k₁) (stretch variables after₁ k₁)
      (stretch variables after k) (reply_at b₁ k₁) (reply_at b k) (r₁.each k₁ l₁)
      (answer-same (tables concepts inclusions questions roles variables) (questions_of questions lengths k) (questions_of questions₁ lengths₁ k₁)
      (amount shares b.counts k) (amount shares₁ b₁.counts k₁) (stretch variables before k) (stretch variables before₁ k₁)
      (stretch variables after k) (stretch variables after k) (reply_at b k) (reply_at b k) e f g refl refl (r.each k l))
