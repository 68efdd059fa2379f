-- Passes over the square: from a step to a pass, and from two passes to one.
use Prim.Native.Nat.{ℕ, ◌+◌, ◌<◌, ◌≤◌}
use mathlib.Core.Path.{◌≡◌, refl, sym, ◌∙◌, subst}
use mathlib.Core.List.{List}
use mathlib.Core.Bool.{Bool, true, false, ◌||◌}
use mathlib.Core.Logic.{⊎_elim}
use native.Mathlib.Omega.{arith}
use borrow.Author.Count.{below_more}
use Rattle.subsumption.proofs.Columns.{any-true, any_false, not-both, falls}
use Rattle.square.specs.Inner.Square.{in_row, Square}
use Rattle.incremental.specs.Inner.Marking.{Adds}
use Rattle.incremental.specs.Inner.Pass.{Within, Pass}

module _ {count : ℕ} {Law : (ℕ → ℕ → Bool) → Type 0} where
  pub pass-none : {Q : List ℕ → Type 0} {s : List ℕ} → Square s → Q s → Pass count Law Q s s false
  pass-none S q =
      record {
        square = S;
        kept = λ i j l k u. u;
        sound = λ R r w. w;
        same = λ e. refl;
        less = λ e. not-both true refl (sym e);
        quiet = λ e. q;
      }

  pub pass-as : {Q Q' : List ℕ → Type 0} {before after : List ℕ} {changed : Bool} → Pass count Law Q before after changed → (Q before → Q' before) → Pass count Law Q' before after changed
  pass-as p f = record { square = p.square; kept = p.kept; sound = p.sound; same = p.same; less = p.less; quiet = λ e. f (p.quiet e) }

  -- what is seen of the square after a pass
  pub pass-seen :
      {Q Q' : List ℕ → Type 0} {before after : List ℕ} {changed : Bool} → Pass count Law Q before after changed → Q' after
      → Pass count Law (λ s. Q s × Q' s) before after changed
  pass-seen {Q} {Q'} p q =
      record {
        square = p.square;
        kept = p.kept;
        sound = p.sound;
        same = p.same;
        less = p.less;
        quiet = λ e. (p.quiet e, subst Q' (p.same e) q);
      }

  pub pass-then :
      {Q Q' : List ℕ → Type 0} {before mid after : List ℕ} {a b : Bool} → Pass count Law Q before mid a → Pass count Law Q' mid after b
      → Pass count Law (λ s. Q s × Q' s) before after (a || b)
  pass-then {Q} {Q'} {before} {mid} {after} {a} {b} p q =
      record {
        square = q.square;
        kept = λ i j l k u. q.kept i j l k (p.kept i j l k u);
        sound = λ R r w. q.sound R r (p.sound R r w);
        same = λ e. let f : (a ≡ false) × (b ≡ false) = any_false a b e in q.same f.1 ∙ p.same f.0;
        less =
            λ e.
            let u = falls before mid a p.same p.less in
            let v = falls mid after b q.same q.less in
            ⊎_elim (λ f. omega (arith, p.less f, u, v)) (λ f. omega (arith, q.less f, u, v)) (any-true a b e);
        quiet = λ e. let f : (a ≡ false) × (b ≡ false) = any_false a b e in (p.quiet f.0, subst Q' (p.same f.0) (q.quiet f.1));
      }

  -- a step is a pass if what it adds is at ids, and in every relation that has the law and holds the marks
  pub step-pass :
      {Q : List ℕ → Type 0} {before after : List ℕ} {new : ℕ → ℕ → Type 0} {changed : Bool} → count ≤ 192 → Adds in_row before after new changed
      → ((R : ℕ → ℕ → Bool) → Law R → Within count R before → (i j : ℕ) → i < count → j < 192 → new i j → (j < count) × (R i j ≡ true))
      → (((i j : ℕ) → i < 192 → j < 192 → new i j → in_row before i j ≡ true) → Q before) → Pass count Law Q before after changed
  step-pass {Q} {before} {after} {new} few A right done =
      record {
        square = A.square;
        kept = A.kept;
        sound = λ R r w i j l k u. ⊎_elim (λ v. w i j l k v) (λ v. right R r w i j l k v) (A.bits i j (omega arith) k u);
        same = A.same;
        less = A.less;
        quiet = λ e. done (λ i j l k u. subst (λ (s : List ℕ). in_row s i j ≡ true) (A.same e) (A.taken i j l k u));
      }

  -- a loop of passes, each owing S of its number
  pub loop-more :
      (S : ℕ → List ℕ → Type 0) (i : ℕ) {before mid after : List ℕ} {a b : Bool}
      → Pass count Law (λ l. (k : ℕ) → k < i → S k l) before mid a → Pass count Law (S i) mid after b
      → Pass count Law (λ l. (k : ℕ) → k < i + 1 → S k l) before after (a || b)
  loop-more S i {before} p q = pass-as (pass-then p q) (λ u. below_more (λ k. S k before) i u.0 u.1)

-- a stronger law serves
pub pass-law :
    {count : ℕ} {Law Law' : (ℕ → ℕ → Bool) → Type 0} {Q : List ℕ → Type 0} {before after : List ℕ} {changed : Bool}
    → ((R : ℕ → ℕ → Bool) → Law' R → Law R) → Pass count Law Q before after changed → Pass count Law' Q before after changed
pass-law f p = record { square = p.square; kept = p.kept; sound = λ R r w. p.sound R (f R r) w; same = p.same; less = p.less; quiet = p.quiet }
