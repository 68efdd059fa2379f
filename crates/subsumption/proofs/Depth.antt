-- What is computed to a depth, each id from smaller ids only, is the same at every depth past the id.
use Prim.Native.Nat.{ℕ, zero, suc, ◌<◌}
use mathlib.Core.Path.{◌≡◌, sym, ◌∙◌}
use native.Mathlib.Omega.{arith}

-- Strong induction.
pub by-smaller : (P : ℕ → Type 0) → ((i : ℕ) → ((j : ℕ) → j < i → P j) → P i) → (i : ℕ) → P i
by-smaller P step i = go (suc i) i (omega arith)
  where
    go : (bound j : ℕ) → j < bound → P j
    go zero j h = absurd (omega arith)
    go (suc bound) j h = step j (λ k l. go bound k (omega arith))

module _ {A : Type 0} (step : (ℕ → A) → ℕ → A) (to : ℕ → ℕ → A)
    (more : (depth i : ℕ) → to (suc depth) i ≡ step (to depth) i)
    (smaller : (f g : ℕ → A) (i : ℕ) → ((j : ℕ) → j < i → f j ≡ g j) → step f i ≡ step g i) where
  depths-agree : (d e i : ℕ) → i < d → i < e → to d i ≡ to e i
  depths-agree zero e i h k = absurd (omega arith)
  depths-agree (suc d) zero i h k = absurd (omega arith)
  depths-agree (suc d) (suc e) i h k =
      more d i ∙ smaller (to d) (to e) i (λ j l. depths-agree d e j (omega arith) (omega arith)) ∙ sym (more e i)

  pub enough : (i : ℕ) → to (suc i) i ≡ step (λ j. to (suc j) j) i
  enough i = more i i ∙ smaller (to i) (λ j. to (suc j) j) i (λ j l. depths-agree i (suc j) j l (omega arith))
