-- An assignment restricted to some of the variables: it takes nothing for the others.
use Rattle.subsumption.specs.Refusal.{Done}
use Prim.Native.Nat.{ℕ, zero, suc, ◌<◌, ◌≤◌}
use mathlib.Core.Path.{◌≡◌, refl, sym, ap, ◌∙◌, subst}
use mathlib.Core.List.{List}
use mathlib.Core.Bool.{Bool, true, false}
use mathlib.Core.Logic.{⊎_elim}
use native.Mathlib.Omega.{arith}
use lib.ListN.{length, get_or, get_or-eq_default}
use Rattle.subsumption.specs.Tables.{Tables, pairs_of}
use Rattle.subsumption.specs.Atoms.{bit}
use Rattle.subsumption.specs.Check.{assignment_fault}
use Rattle.subsumption.proofs.Bools.{le-or-lt}
use Rattle.subsumption.proofs.Bits.{bit-of-zero}
use Rattle.settings.specs.Settings.{Settings, Heeds}
use Rattle.settings.proofs.SizeLaws.{size-le}
use Rattle.matching.specs.Inner.Search.{Within}
use Rattle.matching.proofs.SearchLaws.Fronts.{accepted-long, within-accepted}
use Rattle.groups.specs.Group.{holds}
use Rattle.matching.specs.Among.{SolvesAmong}
use Rattle.groups.specs.Together.{numbers}
use Rattle.groups.proofs.AgreementLaws.{holds_agree}

-- ---- numbers by their places
pub numbers-long : (f : ℕ → ℕ) (n : ℕ) → length (numbers f n) ≡ n
unfolding numbers
numbers-long f zero = refl
numbers-long f (suc n) = ap suc (numbers-long (λ k. f (suc k)) n)

pub numbers-at : (f : ℕ → ℕ) (n k : ℕ) → k < n → get_or (numbers f n) k 0 ≡ f k
unfolding numbers
numbers-at f zero k l = absurd (omega arith)
numbers-at f (suc n) zero l = refl
numbers-at f (suc n) (suc k) l = numbers-at (λ k. f (suc k)) n k (omega arith)

pub numbers-past : (f : ℕ → ℕ) (n k : ℕ) → n ≤ k → get_or (numbers f n) k 0 ≡ 0
numbers-past f n k l = get_or-eq_default (numbers f n) 0 {n = k} (omega (arith, numbers-long f n))

-- ---- restricting
abbrev kept_if : Bool → ℕ → ℕ
kept_if true choice = choice
kept_if false choice = 0

unfoldable pub restricted : (ℕ → Bool) → List ℕ → List ℕ
restricted kept a = numbers (λ k. kept_if (kept k) (get_or a k 0)) (length a)

module _ (kept : ℕ → Bool) (a : List ℕ) where
  pub restricted-same : (k : ℕ) → kept k ≡ true → get_or (restricted kept a) k 0 ≡ get_or a k 0
  unfolding restricted
  restricted-same k e =
      ⊎_elim (λ (l : length a ≤ k). numbers-past _ (length a) k l ∙ sym (get_or-eq_default a 0 {n = k} l))
      (λ l. numbers-at _ (length a) k l ∙ ap (λ (z : Bool). kept_if z (get_or a k 0)) e) (le-or-lt (length a) k)

  pub restricted-empty : (k : ℕ) → kept k ≡ false → get_or (restricted kept a) k 0 ≡ 0
  unfolding restricted
  restricted-empty k e =
      ⊎_elim (λ (l : length a ≤ k). numbers-past _ (length a) k l)
      (λ l. numbers-at _ (length a) k l ∙ ap (λ (z : Bool). kept_if z (get_or a k 0)) e) (le-or-lt (length a) k)

  pub restricted-within : Within (restricted kept a) a
  restricted-within k q e = go (kept k) refl
    where
      go : (b : Bool) → kept k ≡ b → bit (get_or a k 0) q ≡ true
      go true f = subst (λ (z : ℕ). bit z q ≡ true) (restricted-same k f) e
      go false f = absurd (bit-of-zero q (subst (λ (z : ℕ). bit z q ≡ true) (restricted-empty k f) e))

  pub restricted-accepted : (t : Tables) → assignment_fault t a ≡ Done → assignment_fault t (restricted kept a) ≡ Done
  unfolding restricted
  restricted-accepted t h = within-accepted t _ a h (numbers-long _ (length a) ∙ accepted-long t a h) restricted-within

  pub restricted-heeds : (s : Settings) → Heeds s a → Heeds s (restricted kept a)
  restricted-heeds s h =
      record {
        permitted = λ k q e. h.permitted k q (restricted-within k q e);
        few = λ k. omega (arith, h.few k, size-le _ _ (restricted-within k));
      }

  -- the asked questions hold no other variables
  pub restricted-solves :
      (t : Tables) (asked : ℕ → Type 0) → ((n k : ℕ) → n < pairs_of t.questions → asked n → holds t n k ≡ true → kept k ≡ true)
      → SolvesAmong asked t a → SolvesAmong asked t (restricted kept a)
  restricted-solves t asked covers h n l u = holds_agree t n a _ (λ k e. sym (restricted-same k (covers n k l u e))) (h n l u)
