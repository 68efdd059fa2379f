-- How columns change: one word, three words, and what that says of the bits.
use Prim.Native.Nat.{ℕ, zero, suc, ◌+◌, ◌*◌, ◌-◌, ◌/◌, ◌%◌, ◌^◌, ◌<◌, ◌≤◌}
use mathlib.Core.Path.{◌≡◌, refl, ap, ap₂, sym, ◌∙◌, subst}
use mathlib.Core.List.{List, [], ◌∷◌}
use mathlib.Core.Bool.{Bool, true, false, not, ◌||◌}
use mathlib.Core.Logic.{◌⊎◌, inl, inr, ⊎_elim}
use native.Mathlib.Omega.{arith}
use lib.ListN.{length, get_or, set, length-set}
use lib.Seq.{get_or-set_same, get_or-set_other, set-get_or}
use lib.Dec.{eqb, lit<}
use lib.Pow.{shl_exact}
use native.Mathlib.Nat.{one-mul}
use lib.Bits.{bit_and, bit_or}
use borrow.Author.Tests.{eqb-true, eqb-false, not-true, not-false}
use Rattle.subsumption.specs.Atoms.{bit}
use Rattle.subsumption.specs.Inner.Columns.{has, slack, Absorbs, Takes, InThree}
use Rattle.subsumption.proofs.Bools.{both_true, both-intro}
use Rattle.subsumption.proofs.Bits.{or-grows, bit-or-cases, bit_or_right, bit-and, bit-ones, bit-pow, bit-pow-other}

pub any-true : (a b : Bool) → (a || b) ≡ true → (a ≡ true) ⊎ (b ≡ true)
any-true true b e = inl refl
any-true false b e = inr e

pub any_false : (a b : Bool) → (a || b) ≡ false → (a ≡ false) × (b ≡ false)
any_false true b e = let z : ◌≡◌ {A = ℕ} 0 1 = cc in absurd (omega arith)
any_false false b e = (refl, e)

pub not-both : {A : Type 0} (b : Bool) → b ≡ true → b ≡ false → A
not-both b p q = let z : ◌≡◌ {A = ℕ} 0 1 = cc in absurd (omega arith)

pub falls : (x y : List ℕ) (r : Bool) → (r ≡ false → y ≡ x) → (r ≡ true → slack y < slack x) → slack y ≤ slack x
falls x y true p q = omega (arith, q refl)
falls x y false p q = omega (arith, ap slack (p refl))

slack-set : (l : List ℕ) (at v : ℕ) → at < length l → get_or l at 0 < v → get_or l at 0 < 2 ^ 64 → slack (set l at v) < slack l
unfolding slack
slack-set [] at v h g f = absurd (omega arith)
slack-set (x ∷ xs) zero v h g f = omega arith
slack-set (x ∷ xs) (suc at) v h g f = omega (arith, slack-set xs at v (omega arith) g f)

-- one word, as the code changes it
pub absorbs :
    (l : List ℕ) (at add : ℕ) → at < length l → get_or l at 0 < 2 ^ 64
    → Absorbs l (set l at (bit_or (get_or l at 0) add)) at add (not (eqb (get_or l at 0) (bit_or (get_or l at 0) add)))
absorbs l at add h f =
    record {
      long = length-set l at _;
      here = get_or-set_same l at _ 0 h;
      there = λ p e. get_or-set_other l at p _ 0 e;
      quiet = λ e. sym (ap (λ (v : ℕ). set l at v) (eqb-true _ _ (not-false _ e))) ∙ set-get_or l at 0;
      less = λ e. slack-set l at _ h (grown (eqb-false _ _ (not-true _ e))) f;
    }
  where
    grown : (get_or l at 0 ≡ bit_or (get_or l at 0) add → ⊥) → get_or l at 0 < bit_or (get_or l at 0) add
    grown ne = omega (arith, or-grows (get_or l at 0) add, ne)

module _ (before one two after : List ℕ) (to first second third : ℕ) (a b c : Bool) (low : to < 192)
    (A : Absorbs before one (to * 3) first a)
    (B : Absorbs one two (to * 3 + 1) second b)
    (C : Absorbs two after (to * 3 + 2) third c) where
  word : (q : ℕ) → q < 3 → get_or after (to * 3 + q) 0 ≡ bit_or (get_or before (to * 3 + q) 0) (get_or (first ∷ second ∷ third ∷ []) q 0)
  word zero h =
      subst (λ (p : ℕ). get_or after p 0 ≡ bit_or (get_or before p 0) first) (omega arith)
      (C.there (to * 3) (λ e. omega arith) ∙ B.there (to * 3) (λ e. omega arith) ∙ A.here)
  word (suc zero) h =
      C.there (to * 3 + 1) (λ e. omega arith) ∙ B.here ∙ ap (λ (v : ℕ). bit_or v second) (A.there (to * 3 + 1) (λ e. omega arith))
  word (suc (suc zero)) h =
      C.here ∙ ap (λ (v : ℕ). bit_or v third) (B.there (to * 3 + 2) (λ e. omega arith) ∙ A.there (to * 3 + 2) (λ e. omega arith))
  word (suc (suc (suc q))) h = absurd (omega arith)

  elsewhere : (i j : ℕ) → i < 192 → (j ≡ to → ⊥) → get_or after (j * 3 + i / 64) 0 ≡ get_or before (j * 3 + i / 64) 0
  elsewhere i j h ne = C.there _ (λ e. ne (omega arith)) ∙ B.there _ (λ e. ne (omega arith)) ∙ A.there _ (λ e. ne (omega arith))

  took-bits : (i j : ℕ) → i < 192 → has after i j ≡ true → (has before i j ≡ true) ⊎ ((j ≡ to) × InThree first second third i)
  unfolding has
  took-bits i j h e = go (eqb j to) refl
    where
      go : (t : Bool) → eqb j to ≡ t → (has before i j ≡ true) ⊎ ((j ≡ to) × InThree first second third i)
      go true p =
          let s : j ≡ to = eqb-true j to p in
          ⊎_elim (λ u. inl (subst (λ (k : ℕ). bit (get_or before (k * 3 + i / 64) 0) (i % 64) ≡ true) (sym s) u)) (λ u. inr (s, u))
          (bit-or-cases (get_or before (to * 3 + i / 64) 0) (get_or (first ∷ second ∷ third ∷ []) (i / 64) 0) (i % 64)
          (ap (λ (v : ℕ). bit v (i % 64)) (sym (word (i / 64) (omega arith)))
          ∙ subst (λ (k : ℕ). bit (get_or after (k * 3 + i / 64) 0) (i % 64) ≡ true) s e))
      go false p = inl (ap (λ (v : ℕ). bit v (i % 64)) (sym (elsewhere i j h (eqb-false j to p))) ∙ e)

  all_quiet : ((a || b) || c) ≡ false → after ≡ before
  all_quiet e =
      let u : (a || b ≡ false) × (c ≡ false) = any_false (a || b) c e in
      let v : (a ≡ false) × (b ≡ false) = any_false a b u.0 in
      C.quiet u.1 ∙ B.quiet v.1 ∙ A.quiet v.0

  took-all : ((a || b) || c) ≡ false → (i j : ℕ) → i < 192 → j ≡ to → InThree first second third i → has before i j ≡ true
  unfolding has
  took-all e i j h s u =
      subst (λ (k : ℕ). bit (get_or before (k * 3 + i / 64) 0) (i % 64) ≡ true) (sym s)
      (ap (λ (l : List ℕ). bit (get_or l (to * 3 + i / 64) 0) (i % 64)) (sym (all_quiet e))
      ∙ ap (λ (v : ℕ). bit v (i % 64)) (word (i / 64) (omega arith))
      ∙ bit_or_right (get_or before (to * 3 + i / 64) 0) (get_or (first ∷ second ∷ third ∷ []) (i / 64) 0) (i % 64) u)

  some-less : ((a || b) || c) ≡ true → slack after < slack before
  some-less e =
      let u = falls before one a A.quiet A.less in
      let v = falls one two b B.quiet B.less in
      let w = falls two after c C.quiet C.less in
      ⊎_elim
      (λ ab. ⊎_elim (λ h. omega (arith, A.less h, u, v, w)) (λ h. omega (arith, B.less h, u, v, w)) (any-true a b ab))
      (λ h. omega (arith, C.less h, u, v, w))
      (any-true (a || b) c e)

  -- three words
  pub takes : Takes before after (λ j. j ≡ to) (InThree first second third) ((a || b) || c)
  takes =
      record {
        long = C.long ∙ B.long ∙ A.long;
        bits = took-bits;
        taken = took-all;
        quiet = all_quiet;
        less = some-less;
      }

-- the same ids, worded otherwise
pub takes-as :
    {before after : List ℕ} {to add add' : ℕ → Type 0} {changed : Bool} → Takes before after to add changed
    → ((i : ℕ) → i < 192 → add i → add' i) → ((i : ℕ) → i < 192 → add' i → add i) → Takes before after to add' changed
takes-as t there back =
    record {
      long = t.long;
      bits = λ i j h e. ⊎_elim (λ u. inl u) (λ u. inr (u.0, there i h u.1)) (t.bits i j h e);
      taken = λ e i j h s u. t.taken e i j h s (back i h u);
      quiet = t.quiet;
      less = t.less;
    }

pub three-has : (l : List ℕ) (from q : ℕ) → q < 3 → get_or (get_or l (from * 3) 0 ∷ get_or l (from * 3 + 1) 0 ∷ get_or l (from * 3 + 2) 0 ∷ []) q 0 ≡ get_or l (from * 3 + q) 0
three-has l from zero h = ap (λ (p : ℕ). get_or l p 0) (omega arith)
three-has l from (suc zero) h = refl
three-has l from (suc (suc zero)) h = refl
three-has l from (suc (suc (suc q))) h = absurd (omega arith)

pub flow-takes :
    {before after : List ℕ} {to : ℕ → Type 0} {changed : Bool} (from : ℕ)
    → Takes before after to (InThree (get_or before (from * 3) 0) (get_or before (from * 3 + 1) 0) (get_or before (from * 3 + 2) 0)) changed
    → Takes before after to (λ i. has before i from ≡ true) changed
unfolding has
flow-takes {before} from t =
    takes-as t (λ i h u. ap (λ (v : ℕ). bit v (i % 64)) (sym (three-has before from (i / 64) (omega arith))) ∙ u)
    (λ i h u. ap (λ (v : ℕ). bit v (i % 64)) (three-has before from (i / 64) (omega arith)) ∙ u)

module _ (l : List ℕ) (left right : ℕ) where
  three-both :
      (q : ℕ) → q < 3
      → get_or (bit_and (get_or l (left * 3) 0) (get_or l (right * 3) 0)
      ∷ bit_and (get_or l (left * 3 + 1) 0) (get_or l (right * 3 + 1) 0) ∷ bit_and (get_or l (left * 3 + 2) 0) (get_or l (right * 3 + 2) 0) ∷ []) q 0
      ≡ bit_and (get_or l (left * 3 + q) 0) (get_or l (right * 3 + q) 0)
  three-both zero h = ap₂ (λ (p q : ℕ). bit_and (get_or l p 0) (get_or l q 0)) (omega arith) (omega arith)
  three-both (suc zero) h = refl
  three-both (suc (suc zero)) h = refl
  three-both (suc (suc (suc q))) h = absurd (omega arith)

pub meet-takes :
    {before after : List ℕ} {to : ℕ → Type 0} {changed : Bool} (left right : ℕ)
    → Takes before after to
    (InThree (bit_and (get_or before (left * 3) 0) (get_or before (right * 3) 0)) (bit_and (get_or before (left * 3 + 1) 0) (get_or before (right * 3 + 1) 0))
    (bit_and (get_or before (left * 3 + 2) 0) (get_or before (right * 3 + 2) 0))) changed
    → Takes before after to (λ i. (has before i left ≡ true) × (has before i right ≡ true)) changed
unfolding has
meet-takes {before} left right t =
    takes-as t
    (λ i h u.
    both_true (bit (get_or before (left * 3 + i / 64) 0) (i % 64)) (bit (get_or before (right * 3 + i / 64) 0) (i % 64))
    (sym (bit-and (get_or before (left * 3 + i / 64) 0) (get_or before (right * 3 + i / 64) 0) (i % 64))
    ∙ ap (λ (v : ℕ). bit v (i % 64)) (sym (three-both before left right (i / 64) (omega arith))) ∙ u))
    (λ i h u.
    ap (λ (v : ℕ). bit v (i % 64)) (three-both before left right (i / 64) (omega arith))
    ∙ bit-and (get_or before (left * 3 + i / 64) 0) (get_or before (right * 3 + i / 64) 0) (i % 64)
    ∙ both-intro (bit (get_or before (left * 3 + i / 64) 0) (i % 64)) (bit (get_or before (right * 3 + i / 64) 0) (i % 64)) u.0 u.1)

all_ones : (q k : ℕ) → q < 3 → k < 64 → bit (get_or ((2 ^ 64 - 1) ∷ (2 ^ 64 - 1) ∷ (2 ^ 64 - 1) ∷ []) q 0) k ≡ true
all_ones zero k h l = bit-ones k l
all_ones (suc zero) k h l = bit-ones k l
all_ones (suc (suc zero)) k h l = bit-ones k l
all_ones (suc (suc (suc q))) k h l = absurd (omega arith)

pub fill-takes :
    {before after : List ℕ} {to : ℕ → Type 0} {changed : Bool}
    → Takes before after to (InThree (2 ^ 64 - 1) (2 ^ 64 - 1) (2 ^ 64 - 1)) changed → Takes before after to (λ i. Unit {0}) changed
fill-takes t = takes-as t (λ i h u. tt) (λ i h _. all_ones (i / 64) (i % 64) (omega arith) (omega arith))

same-column : (j k a b : ℕ) → a < 3 → b < 3 → j * 3 + a ≡ k * 3 + b → j ≡ k
same-column j k a b p q e = omega arith

same_word : (j k a b : ℕ) → a < 3 → b < 3 → j * 3 + a ≡ k * 3 + b → a ≡ b
same_word j k a b p q e = omega arith

same_id : (i k : ℕ) → i / 64 ≡ k / 64 → i % 64 ≡ k % 64 → i ≡ k
same_id i k p q = omega arith

module _ (before after : List ℕ) (id : ℕ) (changed : Bool) (low : id < 192) (A : Absorbs before after (id * 3 + id / 64) (2 ^ (id % 64)) changed) where
  mark-bits : (i j : ℕ) → i < 192 → has after i j ≡ true → (has before i j ≡ true) ⊎ ((j ≡ id) × (i ≡ id))
  unfolding has
  mark-bits i j h e = go (eqb (j * 3 + i / 64) (id * 3 + id / 64)) refl
    where
      go : (t : Bool) → eqb (j * 3 + i / 64) (id * 3 + id / 64) ≡ t → (has before i j ≡ true) ⊎ ((j ≡ id) × (i ≡ id))
      go true p =
          let s : j * 3 + i / 64 ≡ id * 3 + id / 64 = eqb-true _ _ p in
          ⊎_elim (λ u. inl (ap (λ (q : ℕ). bit (get_or before q 0) (i % 64)) s ∙ u))
          (λ u. inr (same-column j id (i / 64) (id / 64) (omega arith) (omega arith) s, same_id i id (same_word j id (i / 64) (id / 64) (omega arith) (omega arith) s) (bit-pow-other (i % 64) (id % 64) u)))
          (bit-or-cases (get_or before (id * 3 + id / 64) 0) (2 ^ (id % 64)) (i % 64)
          (ap (λ (v : ℕ). bit v (i % 64)) (sym A.here) ∙ ap (λ (q : ℕ). bit (get_or after q 0) (i % 64)) (sym s) ∙ e))
      go false p = inl (ap (λ (v : ℕ). bit v (i % 64)) (sym (A.there _ (eqb-false _ _ p))) ∙ e)

  mark-all : changed ≡ false → (i j : ℕ) → i < 192 → j ≡ id → i ≡ id → has before i j ≡ true
  unfolding has
  mark-all e i j h s u =
      ap₂ (λ (x y : ℕ). bit (get_or before (y * 3 + x / 64) 0) (x % 64)) u s
      ∙ ap (λ (l : List ℕ). bit (get_or l (id * 3 + id / 64) 0) (id % 64)) (sym (A.quiet e))
      ∙ ap (λ (v : ℕ). bit v (id % 64)) A.here
      ∙ bit_or_right (get_or before (id * 3 + id / 64) 0) (2 ^ (id % 64)) (id % 64) (bit-pow (id % 64))

  pub mark-takes : Takes before after (λ j. j ≡ id) (λ i. i ≡ id) changed
  mark-takes = record { long = A.long; bits = mark-bits; taken = mark-all; quiet = A.quiet; less = A.less }

-- the same, as the code shifts
pub mark-shifted :
    (before after : List ℕ) (id : ℕ) (changed : Bool) → id < 192 → Absorbs before after (id * 3 + id / 64) (1 * 2 ^ (id % 64) % 2 ^ 64) changed
    → Takes before after (λ j. j ≡ id) (λ i. i ≡ id) changed
mark-shifted before after id changed low A = mark-takes before after id changed low (subst (λ (v : ℕ). Absorbs before after (id * 3 + id / 64) v changed) (one (id % 64) (omega arith)) A)
  where
    one : (k : ℕ) → k < 64 → 1 * 2 ^ k % 2 ^ 64 ≡ 2 ^ k
    one k h = shl_exact {a = 1} 1 k 64 (lit< tt) (omega arith) ∙ one-mul (2 ^ k)
