-- Sums, what is left over, and the check of a batch.
use Rattle.std.specs.Prelude.{Err}
use Prim.Native.Nat.{ℕ, zero, suc, ◌+◌, ◌-◌, ◌<◌, ◌≤◌}
use mathlib.Core.Path.{◌≡◌, refl, sym, ap, ap₂, ◌∙◌, subst}
use mathlib.Core.List.{List}
use Rattle.std.specs.List.{sum}
use Rattle.std.proofs.lemmas.List.{take_all}
use Rattle.std.proofs.lemmas.List.Sums.{sum_by_more}
use mathlib.Core.Bool.{false, not}
use mathlib.Core.Logic.{⊎_elim}
use native.Mathlib.Omega.{arith}
use native.Mathlib.Numerals.{add-one}
use lib.Dec.{ltb}
use lib.ListN.{length, get_or, take}
use borrow.Author.Tests.{eqb-true, eq-eqb, ne_eqb, ltb-false, lt-ltb, le-ltb, not-false}
use Rattle.subsumption.specs.declared.refusal.Refusal.TheVariants.{BadBatch}
use Rattle.subsumption.specs.Refusal.{first_at, Outcome, Done}
use Rattle.subsumption.proofs.Bools.{or-first, or-second, or-skip, or-false, last-cases}
use Rattle.subsumption.proofs.Refusals.{stops, goes_on, refused-if, done-if, passed_first, passed-second, passed-if, passed-at}
use Rattle.batches.specs.Batch.{total, left_after, misshapen, batch_fault}

-- ---- sums
pub total-none : (numbers : List ℕ) → total numbers 0 ≡ 0
unfolding total
total-none numbers = refl

pub total-more : (numbers : List ℕ) (k : ℕ) → total numbers (k + 1) ≡ total numbers k + get_or numbers k 0
unfolding total
total-more numbers k = rw add-one

total-take : (numbers : List ℕ) (n : ℕ) → n ≤ length numbers → total numbers n ≡ sum (take n numbers)
unfolding total
total-take numbers zero h = refl
total-take numbers (suc n) h =
    let more = rw add-one at (sum_by_more (λ x. x) numbers n 0 (omega arith)) in
    omega (arith, total-take numbers n (omega arith), more)

pub total-sum : (numbers : List ℕ) → total numbers (length numbers) ≡ sum numbers
total-sum numbers = total-take numbers (length numbers) (omega arith) ∙ ap sum (take_all (length numbers) numbers (omega arith))

pub total-le : (numbers : List ℕ) (k n : ℕ) → k ≤ n → total numbers k ≤ total numbers n
unfolding total
total-le numbers zero zero h = omega arith
total-le numbers (suc k) zero h = absurd (omega arith)
total-le numbers k (suc n) h =
    ⊎_elim (λ (e : k ≡ suc n). subst (λ (z : ℕ). total numbers z ≤ total numbers (suc n)) (sym e) (omega arith))
    (λ l. omega (arith, total-le numbers k n (omega arith))) (last-cases k (suc n) (omega arith))

-- ---- what is left over
pub left-none : (shares counts : List ℕ) → left_after shares counts 0 ≡ 0
unfolding left_after
left-none shares counts = refl

pub left-more :
    (shares counts : List ℕ) (k : ℕ) → left_after shares counts (k + 1) ≡ left_after shares counts k + get_or shares k 0 - get_or counts k 0
unfolding left_after
left-more shares counts k = rw add-one

-- it goes by the counts before
pub left-same :
    (shares counts other : List ℕ) (k : ℕ) → ((j : ℕ) → j < k → get_or counts j 0 ≡ get_or other j 0) → left_after shares counts k ≡ left_after shares other k
unfolding left_after
left-same shares counts other zero h = refl
left-same shares counts other (suc k) h =
    ap₂ (λ (a : ℕ) (b : ℕ). a + get_or shares k 0 - b) (left-same shares counts other k (λ j l. h j (omega arith))) (h k (omega arith))

-- ---- the check
module _ (lengths shares : List ℕ) (size : ℕ) where
  pub too_many : 8 < length lengths → Err (BadBatch 8) ≡ batch_fault lengths shares size
  unfolding batch_fault misshapen
  too_many h = stops _ _ _ _ (refused-if _ _ (or-first _ _ (lt-ltb _ _ h))) refl

  pub other-shares : (length shares ≡ length lengths → ⊥) → Err (BadBatch 8) ≡ batch_fault lengths shares size
  unfolding batch_fault misshapen
  other-shares h = stops _ _ _ _ (refused-if _ _ (or-second _ _ (or-first _ _ (ap not (ne_eqb _ _ h))))) refl

  pub other-sum : (total lengths (length lengths) ≡ size → ⊥) → Err (BadBatch 8) ≡ batch_fault lengths shares size
  unfolding batch_fault misshapen
  other-sum h = stops _ _ _ _ (refused-if _ _ (or-second _ _ (or-second _ _ (ap not (ne_eqb _ _ h))))) refl

  pub shaped-goes-on :
      (r : Outcome) → length lengths ≤ 8 → length shares ≡ length lengths → total lengths (length lengths) ≡ size
      → r ≡ first_at BadBatch (λ k. ltb 1000000 (get_or shares k 0)) 0 (length lengths) → r ≡ batch_fault lengths shares size
  unfolding batch_fault misshapen
  shaped-goes-on r few e f h =
      goes_on Done _ _ _ (done-if _ _ (or-skip _ _ (le-ltb _ _ few) ∙ or-skip _ _ (ap not (eq-eqb _ _ e)) ∙ ap not (eq-eqb _ _ f))) refl h

-- ---- what it shows
module _ (lengths shares : List ℕ) (size : ℕ) (h : batch_fault lengths shares size ≡ Done) where
  shaped : misshapen lengths shares size ≡ false
  unfolding batch_fault
  shaped = passed-if _ _ (passed_first _ _ h)

  pub few-tables : length lengths ≤ 8
  unfolding misshapen
  few-tables = ltb-false _ _ (or-false _ _ shaped).0

  pub same_number : length shares ≡ length lengths
  unfolding misshapen
  same_number = eqb-true _ _ (not-false _ (or-false _ _ (or-false _ _ shaped).1).0)

  whole_sum : total lengths (length lengths) ≡ size
  unfolding misshapen
  whole_sum = eqb-true _ _ (not-false _ (or-false _ _ (or-false _ _ shaped).1).1)

  pub share-few : (k : ℕ) → k < length lengths → get_or shares k 0 ≤ 1000000
  unfolding batch_fault
  share-few k l = ltb-false _ _ (passed-at BadBatch (λ j. ltb 1000000 (get_or shares j 0)) 0 _ (passed-second _ _ h) k (omega arith) (omega arith))

  -- the questions of table k end within the slice
  pub ends-within : (k : ℕ) → k < length lengths → total lengths k + get_or lengths k 0 ≤ size
  ends-within k l = omega (arith, total-le lengths (k + 1) (length lengths) (omega arith), total-more lengths k, whole_sum)
