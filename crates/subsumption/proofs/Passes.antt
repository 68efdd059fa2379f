-- Passes over the columns: from one step to a pass, and from two passes to one.
use Prim.Native.Nat.{ℕ, ◌+◌, ◌<◌, ◌≤◌}
use mathlib.Core.Path.{◌≡◌, refl, sym, ◌∙◌, subst}
use mathlib.Core.List.{List}
use mathlib.Core.Bool.{Bool, true, false, ◌||◌}
use mathlib.Core.Logic.{⊎_elim}
use native.Mathlib.Omega.{arith}
use native.Mathlib.Nat.{eq-or-lt_of_le}
use borrow.Author.Count.{below_more}
use Rattle.subsumption.specs.Tables.{count_of}
use Rattle.subsumption.specs.Inner.Columns.{has, Into, Takes}
use Rattle.subsumption.specs.Inner.Closure.{Flow, Sound, Pass}
use Rattle.subsumption.proofs.Columns.{any-true, any_false, not-both, falls}

module _ {concepts inclusions : List ℕ} {wide : ℕ → ℕ → Bool} {choose : ℕ → List ℕ} where
  pub pass-none : {Q : List ℕ → Type 0} {columns : List ℕ} → Q columns → Pass concepts inclusions wide choose Q columns columns false
  pass-none q = record { long = refl; sound = λ g s. s; same = λ e. refl; less = λ e. not-both true refl (sym e); quiet = λ e. q }

  pub pass-as :
      {Q Q' : List ℕ → Type 0} {before after : List ℕ} {changed : Bool} → Pass concepts inclusions wide choose Q before after changed
      → (Q before → Q' before) → Pass concepts inclusions wide choose Q' before after changed
  pass-as p f = record { long = p.long; sound = p.sound; same = p.same; less = p.less; quiet = λ e. f (p.quiet e) }

  -- what is seen of the columns after a pass
  pub pass-seen :
      {Q Q' : List ℕ → Type 0} {before after : List ℕ} {changed : Bool} → Pass concepts inclusions wide choose Q before after changed
      → Q' after → Pass concepts inclusions wide choose (λ l. Q l × Q' l) before after changed
  pass-seen {Q} {Q'} p q =
      record {
        long = p.long;
        sound = p.sound;
        same = p.same;
        less = p.less;
        quiet = λ e. (p.quiet e, subst Q' (p.same e) q);
      }

  -- a pass that changed something owes nothing
  pub pass-busy :
      {Q Q' : List ℕ → Type 0} {before after : List ℕ} {changed : Bool} → Pass concepts inclusions wide choose Q before after changed
      → changed ≡ true → Pass concepts inclusions wide choose Q' before after true
  pass-busy p b =
      record {
        long = p.long;
        sound = p.sound;
        same = λ e. not-both true refl e;
        less = λ e. p.less b;
        quiet = λ e. not-both true refl e;
      }

  pub pass-then :
      {Q Q' : List ℕ → Type 0} {before mid after : List ℕ} {a b : Bool} → Pass concepts inclusions wide choose Q before mid a
      → Pass concepts inclusions wide choose Q' mid after b → Pass concepts inclusions wide choose (λ l. Q l × Q' l) before after (a || b)
  pass-then {Q} {Q'} {before} {mid} {after} {a} {b} p q =
      record {
        long = q.long ∙ p.long;
        sound = λ g s. q.sound g (p.sound g s);
        same = λ e. let f : (a ≡ false) × (b ≡ false) = any_false a b e in q.same f.1 ∙ p.same f.0;
        less =
            λ e.
            let u = falls before mid a p.same p.less in
            let v = falls mid after b q.same q.less in
            ⊎_elim (λ h. omega (arith, p.less h, u, v)) (λ h. omega (arith, q.less h, u, v)) (any-true a b e);
        quiet =
            λ e. let f : (a ≡ false) × (b ≡ false) = any_false a b e in (p.quiet f.0, subst Q' (p.same f.0) (q.quiet f.1));
      }

  -- a step is a pass if what it adds flows
  pub step-pass :
      {Q : List ℕ → Type 0} {before after : List ℕ} {to add : ℕ → Type 0} {changed : Bool} → count_of concepts ≤ 192
      → Takes before after to add changed
      → ((g : List ℕ) → Sound concepts inclusions wide choose g before → (i j : ℕ) → i < count_of concepts → j < count_of concepts → to j → add i
      → Flow concepts inclusions wide choose g i j)
      → (((i j : ℕ) → i < count_of concepts → to j → add i → has before i j ≡ true) → Q before)
      → Pass concepts inclusions wide choose Q before after changed
  step-pass few t flows done =
      record {
        long = t.long;
        sound = λ g s i j h l e. ⊎_elim (λ u. s i j h l u) (λ u. flows g s i j h l u.0 u.1) (t.bits i j (omega arith) e);
        same = t.quiet;
        less = t.less;
        quiet = λ e. done (λ i j h u v. t.taken e i j (omega arith) u v);
      }

  pub flow-pass :
      {before after : List ℕ} {changed : Bool} (from to : ℕ) → count_of concepts ≤ 192 → from < count_of concepts
      → ((g : List ℕ) (i : ℕ) → i < count_of concepts → Flow concepts inclusions wide choose g i from → Flow concepts inclusions wide choose g i to)
      → Takes before after (λ j. j ≡ to) (λ i. has before i from ≡ true) changed
      → Pass concepts inclusions wide choose (λ l. Into (count_of concepts) l from to) before after changed
  flow-pass from to few h flows t =
      step-pass few t
      (λ g s i j l _ e u. subst (λ (x : ℕ). Flow concepts inclusions wide choose g i x) (sym e) (flows g i l (s i from l h u)))
      (λ f i l u. f i to l refl u)

  -- a loop of passes, each owing S of its number
  pub loop-first :
      (S : ℕ → List ℕ → Type 0) (columns : List ℕ)
      → Pass concepts inclusions wide choose (λ l. (k : ℕ) → k < 0 → S k l) columns columns false
  loop-first S columns = pass-none (λ k h. absurd (omega arith))

  pub loop-more :
      (S : ℕ → List ℕ → Type 0) (i : ℕ) {before mid after : List ℕ} {a b : Bool}
      → Pass concepts inclusions wide choose (λ l. (k : ℕ) → k < i → S k l) before mid a → Pass concepts inclusions wide choose (S i) mid after b
      → Pass concepts inclusions wide choose (λ l. (k : ℕ) → k < i + 1 → S k l) before after (a || b)
  loop-more S i {before} p q = pass-as (pass-then p q) (λ u. below_more (λ k. S k before) i u.0 u.1)

  pub loop-done :
      (S : ℕ → List ℕ → Type 0) (i n : ℕ) {before after : List ℕ} {a : Bool} → n ≤ i
      → Pass concepts inclusions wide choose (λ l. (k : ℕ) → k < i → S k l) before after a
      → Pass concepts inclusions wide choose (λ l. (k : ℕ) → k < n → S k l) before after a
  loop-done S i n h p = pass-as p (λ u k l. u k (omega arith))

  -- the same from the highest number down
  pub fall-first :
      (S : ℕ → List ℕ → Type 0) (n : ℕ) (columns : List ℕ)
      → Pass concepts inclusions wide choose (λ l. (k : ℕ) → n ≤ k → k < n → S k l) columns columns false
  fall-first S n columns = pass-none (λ k h l. absurd (omega arith))

  pub fall-more :
      (S : ℕ → List ℕ → Type 0) (i j n : ℕ) {before mid after : List ℕ} {a b : Bool} → i ≡ j + 1
      → Pass concepts inclusions wide choose (λ l. (k : ℕ) → i ≤ k → k < n → S k l) before mid a → Pass concepts inclusions wide choose (S j) mid after b
      → Pass concepts inclusions wide choose (λ l. (k : ℕ) → j ≤ k → k < n → S k l) before after (a || b)
  fall-more S i j n {before} e p q =
      pass-as (pass-then p q)
      (λ u k h l. ⊎_elim (λ g. subst (λ (x : ℕ). S x before) g u.1) (λ g. u.0 k (omega arith) l) (eq-or-lt_of_le h))

  pub fall-done :
      (S : ℕ → List ℕ → Type 0) (j n : ℕ) {before after : List ℕ} {a : Bool} → j ≡ 0
      → Pass concepts inclusions wide choose (λ l. (k : ℕ) → j ≤ k → k < n → S k l) before after a
      → Pass concepts inclusions wide choose (λ l. (k : ℕ) → k < n → S k l) before after a
  fall-done S j n e p = pass-as p (λ u k l. u k (omega arith) l)
