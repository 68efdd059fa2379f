-- The tables in turn: what is known before table k.
use Rattle.std.specs.Prelude.{Err}
use Prim.Native.Nat.{ℕ, ◌+◌, ◌-◌, ◌*◌, ◌<◌, ◌≤◌}
use mathlib.Core.Path.{◌≡◌, refl, sym, ap, ap₂, ◌∙◌, subst}
use mathlib.Core.List.{List}
use mathlib.Core.Logic.{⊎_elim}
use native.Mathlib.Omega.{arith}
use lib.ListN.{length, get_or, take, drop, set, length-set, replicate, get_or-replicate, get_or-eq_default}
use lib.Seq.{get_or-set_same, get_or-set_other}
use Rattle.subsumption.specs.declared.refusal.Refusal.{Refusal}
use Rattle.subsumption.specs.declared.refusal.Code.{Code}
use Rattle.subsumption.specs.Tables.{Tables, tables}
use Rattle.subsumption.specs.Refusal.{Reply, reply_done, code_of, Outcome, Done}
use Rattle.subsumption.proofs.Bools.{le-or-lt, last-cases}
use Rattle.allowance.specs.Find.{FindsCounted}
use Rattle.batches.specs.declared.find.Batch.{Batch}
use Rattle.batches.specs.Batch.{total, questions_of, tables_of, unrestricted, stretch, left_after, amount, batch_fault}
use Rattle.batches.specs.Find.{Ran, FindsBatchAfter, FindsBatch}
use Rattle.batches.specs.Inner.Find.{FindsAt}
use Rattle.batches.proofs.BatchLaws.{total-none, total-more, left-none, left-more, left-same}
use Rattle.batches.proofs.StretchLaws.{stretch-same, drop-same, earlier-kept, later-kept}
use Rattle.batches.proofs.FindLaws.{Answer, answer-same, count-within}

abbrev reply_in : List ℕ → List ℕ → List ℕ → ℕ → Reply
reply_in numbers places counts k = record { number = get_or numbers k 0; place = get_or places k 0; value = get_or counts k 0 }

pub record RanTo (t : Tables) (lengths shares before after numbers places counts : List ℕ) (start left k : ℕ) : Type 0 where
  pub within : k ≤ length lengths
  pub numbers-long : length numbers ≡ 8
  pub places-long : length places ≡ 8
  pub counts-long : length counts ≡ 8
  pub each :
      (j : ℕ) → j < k
      → FindsCounted (tables_of t lengths j) (unrestricted (tables_of t lengths j)) (amount shares counts j) (stretch t.variables before j)
      (stretch t.variables after j) (reply_in numbers places counts j)
  pub none : (j : ℕ) → k ≤ j → reply_in numbers places counts j ≡ reply_done 0
  pub started : start ≡ total lengths k
  pub left_over : left ≡ left_after shares counts k
  pub few : left ≤ k * 1000000
  pub size : length after ≡ length before
  pub later : (p : ℕ) → k * t.variables ≤ p → get_or after p 0 ≡ get_or before p 0

zeros : (j : ℕ) → ◌≡◌ {A = ℕ} (get_or (replicate 8 0) j 0) 0
zeros j = ⊎_elim (λ (m : 8 ≤ j). get_or-eq_default (replicate 8 0) 0 {n = j} m) (λ m. get_or-replicate 8 j 0 0 m) (le-or-lt 8 j)

reply-same : (n p c n' p' c' : ℕ) → n ≡ n' → p ≡ p' → c ≡ c' → ◌≡◌ {A = Reply} (record { number = n; place = p; value = c }) (record { number = n'; place = p'; value = c' })
reply-same n p c n' p' c' e f g = rw (e, f, g)

pub ran-none : (t : Tables) (lengths shares before : List ℕ) → RanTo t lengths shares before before (replicate 8 0) (replicate 8 0) (replicate 8 0) 0 0 0
ran-none t lengths shares before =
    record {
      within = omega arith;
      numbers-long = refl;
      places-long = refl;
      counts-long = refl;
      each = λ j l. absurd (omega arith);
      none = λ j l. reply-same _ _ _ _ _ _ (zeros j) (zeros j) (zeros j);
      started = sym (total-none lengths);
      left_over = sym (left-none shares (replicate 8 0));
      few = omega arith;
      size = refl;
      later = λ p l. refl;
    }

module _
    (t : Tables) (lengths shares before after numbers places counts : List ℕ) (start left k : ℕ) (s : RanTo t lengths shares before after numbers places counts start left k)
    (low : k < length lengths) (few : length lengths ≤ 8) (number place count : ℕ) (after₁ : List ℕ)
    (reply : Reply) (e : reply ≡ record { number = number; place = place; value = count })
    (x : FindsAt (tables t.concepts t.inclusions (take (start + get_or lengths k 0 - start) (drop start t.questions)) t.roles t.variables) (left + get_or shares k 0) k after after₁ reply) where
  abbrev numbers₁ : List ℕ
  numbers₁ = set numbers k number

  abbrev places₁ : List ℕ
  places₁ = set places k place

  abbrev counts₁ : List ℕ
  counts₁ = set counts k count

  its-questions : take (start + get_or lengths k 0 - start) (drop start t.questions) ≡ questions_of t.questions lengths k
  unfolding questions_of
  its-questions = ap₂ (λ (a : ℕ) (b : ℕ). take a (drop b t.questions)) long s.started
    where
      long : start + get_or lengths k 0 - start ≡ get_or lengths k 0
      long = omega arith

  left-kept : (j : ℕ) → j ≤ k → left_after shares counts₁ j ≡ left_after shares counts j
  left-kept j l = left-same shares counts₁ counts j (λ i m. get_or-set_other counts k i count 0 (λ e. omega arith))

  its-amount : left + get_or shares k 0 ≡ amount shares counts₁ k
  its-amount = ap (λ (z : ℕ). z + get_or shares k 0) (s.left_over ∙ sym (left-kept k (omega arith)))

  reply-here : reply_in numbers₁ places₁ counts₁ k ≡ reply
  reply-here =
      reply-same _ _ _ _ _ _ (get_or-set_same numbers k number 0 (omega (arith, s.numbers-long)))
      (get_or-set_same places k place 0 (omega (arith, s.places-long))) (get_or-set_same counts k count 0 (omega (arith, s.counts-long))) ∙ sym e

  reply-other : (j : ℕ) → (j ≡ k → ⊥) → reply_in numbers₁ places₁ counts₁ j ≡ reply_in numbers places counts j
  reply-other j n =
      reply-same _ _ _ _ _ _ (get_or-set_other numbers k j number 0 n) (get_or-set_other places k j place 0 n) (get_or-set_other counts k j count 0 n)

  abbrev AnswerAt : ℕ → Type 0
  AnswerAt j =
      Answer t (questions_of t.questions lengths j) (amount shares counts₁ j) (stretch t.variables before j) (stretch t.variables after₁ j)
      (reply_in numbers₁ places₁ counts₁ j)

  here : AnswerAt k
  here =
      answer-same t _ _ _ _ (stretch t.variables after k) _ (stretch t.variables after₁ k) _ _ _ its-questions its-amount
      (stretch-same t.variables k after before s.size (λ p l m. s.later p l)) refl (sym reply-here) x.finds

  old : (j : ℕ) → j < k → AnswerAt j
  old j l =
      answer-same t (questions_of t.questions lengths j) _ _ _ (stretch t.variables before j) _ _ _ _ _ refl
      (ap (λ (z : ℕ). z + get_or shares j 0) (sym (left-kept j (omega arith)))) refl
      (sym (earlier-kept t.variables k after after₁ x.only j l)) (sym (reply-other j (λ e. omega arith))) (s.each j l)

  pub used : count ≤ left + get_or shares k 0
  used =
      omega
      (arith, ap (λ (z : Reply). z.value) e, count-within (tables t.concepts t.inclusions _ t.roles t.variables) _ _ (stretch t.variables after k) (stretch t.variables after₁ k) reply x.finds)

  pub ran-more :
      get_or shares k 0 ≤ 1000000
      → RanTo t lengths shares before after₁ (set numbers k number) (set places k place) (set counts k count) (start + get_or lengths k 0)
      (left + get_or shares k 0 - count) (k + 1)
  ran-more share =
      record {
        within = omega arith;
        numbers-long = length-set numbers k _ ∙ s.numbers-long;
        places-long = length-set places k _ ∙ s.places-long;
        counts-long = length-set counts k _ ∙ s.counts-long;
        each =
            λ j l.
            ⊎_elim (λ (e : j ≡ k). subst AnswerAt (sym e) here) (λ m. old j m) (last-cases j k (omega arith));
        none = λ j l. reply-other j (λ e. omega arith) ∙ s.none j (omega arith);
        started = ap (λ (z : ℕ). z + get_or lengths k 0) s.started ∙ sym (total-more lengths k);
        left_over =
            ap (λ (z : ℕ). z - count) its-amount ∙ ap (λ (z : ℕ). amount shares counts₁ k - z) (sym (get_or-set_same counts k count 0 (omega (arith, s.counts-long))))
            ∙ sym (left-more shares counts₁ k);
        few = omega (arith, s.few);
        size = x.only.size ∙ s.size;
        later = λ p l. later-kept t.variables k after after₁ x.only p l ∙ s.later p (omega arith);
      }

pub ran-all :
    (t : Tables) (lengths shares before after numbers places counts : List ℕ) (start left k : ℕ) → RanTo t lengths shares before after numbers places counts start left k
    → length lengths ≤ k → Ran t lengths shares before after (record { number = 0; place = 0; left = left; numbers = numbers; places = places; counts = counts })
ran-all t lengths shares before after numbers places counts start left k s h =
    record {
      number = refl;
      place = refl;
      each = λ j l. s.each j (omega arith);
      none = λ j l. s.none j (omega (arith, s.within));
      left = s.left_over ∙ ap (left_after shares counts) whole;
      size = s.size;
      rest = drop-same _ after before s.size (λ p l. s.later p (subst (λ (z : ℕ). z * t.variables ≤ p) (sym whole) l));
    }
  where
    whole : k ≡ length lengths
    whole = omega (arith, s.within)

-- ---- the answer after the check
module _ (t : Tables) (lengths shares before : List ℕ) where
  pub batch-ran :
      (after : List ℕ) (b : Batch) → batch_fault lengths shares (length t.questions) ≡ Done → Ran t lengths shares before after b
      → FindsBatch t lengths shares before after b
  batch-ran after b h = subst (λ (z : Outcome). FindsBatchAfter z t lengths shares before after b) (sym h)

  pub batch-refused :
      (r : Refusal) (code : Code) → Err r ≡ batch_fault lengths shares (length t.questions) → code ≡ code_of r
      → FindsBatch t lengths shares before before
      (record { number = code.number; place = code.place; left = 0; numbers = replicate 8 0; places = replicate 8 0; counts = replicate 8 0 })
  batch-refused r code h e =
      subst
      (λ (z : Outcome). FindsBatchAfter z t lengths shares before before (record { number = code.number; place = code.place; left = 0; numbers = replicate 8 0; places = replicate 8 0; counts = replicate 8 0 }))
      h
      (record {
        number = ap (λ (z : Code). z.number) e;
        place = ap (λ (z : Code). z.place) e;
        none = λ k. reply-same _ _ _ _ _ _ (zeros k) (zeros k) (zeros k);
        left = refl;
        kept = refl;
      })
