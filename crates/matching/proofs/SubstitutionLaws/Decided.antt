-- Of finitely many statements it is not impossible to decide all.
use Prim.Native.Nat.{ℕ, zero, suc, ◌<◌}
use mathlib.Core.Path.{◌≡◌, refl, sym, subst}
use mathlib.Core.Bool.{Bool, true, false, false≢true}
use mathlib.Core.Logic.{◌↔◌}
use native.Mathlib.Omega.{arith}
use lib.Dec.{eqb}
use borrow.Author.Tests.{eqb-true, eqb-false}

abbrev pub NotNot : Type 0 → Type 0
NotNot A = (A → ⊥) → ⊥

abbrev pub Decides : Type 0 → Bool → Type 0
Decides P b = (b ≡ true) ↔ P

unfoldable pub branch : {A : Type 0} → Bool → A → A → A
branch true a b = a
branch false a b = b

module _ {A : Type 0} (Q : ℕ → A → Type 0) (default : A) where
  pub choose-below :
      (n : ℕ) → ((i : ℕ) → i < n → NotNot ((a : A) × Q i a)) → NotNot ((f : ℕ → A) × ((i : ℕ) → i < n → Q i (f i)))
  unfolding branch
  choose-below zero h k = k (λ _. default, λ i l. absurd (omega arith))
  choose-below (suc n) h k =
      h n (omega arith) (λ (a, q). choose-below n (λ i l. h i (omega arith)) (λ (f, p). k (λ i. branch (eqb i n) a (f i), more a q f p)))
    where
      more :
          (a : A) → Q n a → (f : ℕ → A) → ((i : ℕ) → i < n → Q i (f i))
          → (i : ℕ) → i < suc n → Q i (branch (eqb i n) a (f i))
      more a q f p i l = go (eqb i n) refl
        where
          go : (b : Bool) → eqb i n ≡ b → Q i (branch (eqb i n) a (f i))
          go true e = rw e (subst (λ (z : ℕ). Q z a) (sym (eqb-true i n e)) q)
          go false e = rw e (p i (omega (arith, eqb-false i n e)))

pub decided : (P : Type 0) → NotNot ((b : Bool) × Decides P b)
decided P k = k (false, (λ e. absurd (false≢true e), λ p. absurd (k (true, (λ _. p, λ _. refl)))))

pub decided-below : (P : ℕ → Type 0) (n : ℕ) → NotNot ((f : ℕ → Bool) × ((i : ℕ) → i < n → Decides (P i) (f i)))
decided-below P n = choose-below (λ i b. Decides (P i) b) false n (λ i l. decided (P i))

pub decided-pairs :
    (P : ℕ → ℕ → Type 0) (n m : ℕ) → NotNot ((f : ℕ → ℕ → Bool) × ((i : ℕ) → i < n → (j : ℕ) → j < m → Decides (P i j) (f i j)))
decided-pairs P n m = choose-below (λ i f. (j : ℕ) → j < m → Decides (P i j) (f j)) (λ _. false) n (λ i l. decided-below (P i) m)
