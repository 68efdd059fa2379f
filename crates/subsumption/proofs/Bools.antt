-- Laws of the tests `or`, `both` and `any_below`.
use Prim.Native.Nat.{ℕ, zero, suc, ◌<◌, ◌≤◌}
use mathlib.Core.Path.{◌≡◌, refl, sym, subst}
use mathlib.Core.Bool.{Bool, true, false, false≢true}
use mathlib.Core.Logic.{◌⊎◌, inl, inr, ⊎_elim}
use native.Mathlib.Omega.{arith}
use lib.Dec.{eqb, leb}
use borrow.Author.Tests.{eqb-true, eqb-false, leb-true, leb-false}
use Rattle.subsumption.specs.Tables.{or, both, any_below}

pub or_cases : (a b : Bool) → or a b ≡ true → (a ≡ true) ⊎ (b ≡ true)
unfolding or
or_cases true b h = inl refl
or_cases false b h = inr h

pub or-first : (a b : Bool) → a ≡ true → or a b ≡ true
unfolding or
or-first true b h = refl
or-first false b h = cc

pub or-second : (a b : Bool) → b ≡ true → or a b ≡ true
unfolding or
or-second true b h = refl
or-second false b h = h

pub or-false : (a b : Bool) → or a b ≡ false → (a ≡ false) × (b ≡ false)
unfolding or
or-false true b h = (cc, cc)
or-false false b h = (refl, h)

pub both_true : (a b : Bool) → both a b ≡ true → (a ≡ true) × (b ≡ true)
unfolding both
both_true true b h = (refl, h)
both_true false b h = (cc, cc)

pub both-intro : (a b : Bool) → a ≡ true → b ≡ true → both a b ≡ true
unfolding both
both-intro true b h k = k
both-intro false b h k = h

-- The last number below suc n, or one before it.
pub last-cases : (m n : ℕ) → m < suc n → (m ≡ n) ⊎ (m < n)
last-cases m n h = go (eqb m n) refl
  where
    go : (b : Bool) → eqb m n ≡ b → (m ≡ n) ⊎ (m < n)
    go true e = inl (eqb-true m n e)
    go false e = inr (omega (arith, eqb-false m n e))

pub any_below-intro : (n : ℕ) (test : ℕ → Bool) (m : ℕ) → m < n → test m ≡ true → any_below n test ≡ true
unfolding any_below
any_below-intro zero test m h k = absurd (omega arith)
any_below-intro (suc n) test m h k =
    ⊎_elim (λ (e : m ≡ n). or-first (test n) _ (subst (λ (z : ℕ). test z ≡ true) e k))
    (λ l. or-second (test n) _ (any_below-intro n test m l k)) (last-cases m n h)

pub any_below-elim : (n : ℕ) (test : ℕ → Bool) → any_below n test ≡ true → (m : ℕ) × (m < n) × (test m ≡ true)
unfolding any_below
any_below-elim zero test h = absurd (false≢true h)
any_below-elim (suc n) test h =
    ⊎_elim (λ e. (n, omega arith, e)) (λ k. let r = any_below-elim n test k in (r.0, omega (arith, r.1), r.2)) (or_cases (test n) _ h)

pub or-skip : (a b : Bool) → a ≡ false → or a b ≡ b
unfolding or
or-skip true b h = cc
or-skip false b h = refl

pub both-skip : (a b : Bool) → a ≡ true → both a b ≡ b
unfolding both
both-skip true b h = refl
both-skip false b h = cc

pub both-none : (a b : Bool) → a ≡ false → both a b ≡ false
unfolding both
both-none true b h = cc
both-none false b h = refl

-- Two tests are equal where each implies the other.
pub both_first : (a b : Bool) → b ≡ true → both a b ≡ a
unfolding both
both_first true b e = e
both_first false b e = refl

pub both-second : (a b : Bool) → b ≡ false → both a b ≡ false
unfolding both
both-second true b e = e
both-second false b e = refl

pub same_bool : (a b : Bool) → (a ≡ true → b ≡ true) → (b ≡ true → a ≡ true) → a ≡ b
same_bool true true f g = refl
same_bool true false f g = sym (f refl)
same_bool false true f g = g refl
same_bool false false f g = refl

pub le-or-lt : (a b : ℕ) → (a ≤ b) ⊎ (b < a)
le-or-lt a b = go (leb a b) refl
  where
    go : (v : Bool) → leb a b ≡ v → (a ≤ b) ⊎ (b < a)
    go true e = inl (leb-true a b e)
    go false e = inr (leb-false a b e)

pub eq-or-ne : (a b : ℕ) → (a ≡ b) ⊎ (a ≡ b → ⊥)
eq-or-ne a b = go (eqb a b) refl
  where
    go : (v : Bool) → eqb a b ≡ v → (a ≡ b) ⊎ (a ≡ b → ⊥)
    go true e = inl (eqb-true a b e)
    go false e = inr (eqb-false a b e)
