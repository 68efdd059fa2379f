-- Members of lists one behind the other.
use Prim.Native.Nat.{ℕ, zero, suc, ◌+◌, ◌<◌, ◌≤◌}
use mathlib.Core.Path.{◌≡◌, subst}
use mathlib.Core.List.Memᴰ
use mathlib.Core.List.{List, Memᴰ}
use mathlib.Core.Logic.{⊎_elim}
use native.Mathlib.Omega.{arith}
use native.Mathlib.Nat.{eq-or-lt_of_le}
use Rattle.countermodel.specs.Rows.{joined}

module _ {A : Type 0} (list : ℕ → List A) where
  pub joined_in : (from count m : ℕ) {a : A} → from ≤ m → m < from + count → Memᴰ a (list m) → Memᴰ a (joined list from count)
  unfolding joined
  joined_in from zero m l k h = absurd (omega arith)
  joined_in from (suc count) m {a} l k h =
      ⊎_elim (λ (e : from ≡ m). Memᴰ.append_left _ (subst (λ (z : ℕ). Memᴰ a (list z)) (omega arith) h))
      (λ u. Memᴰ.append_right (list from) (joined_in (suc from) count m u (omega arith) h)) (eq-or-lt_of_le l)

  pub joined-out :
      (from count : ℕ) {a : A} → Memᴰ a (joined list from count) → (m : ℕ) × (from ≤ m) × (m < from + count) × Memᴰ a (list m)
  unfolding joined
  joined-out from zero h = absurd (Memᴰ.not-nil h)
  joined-out from (suc count) h =
      ⊎_elim (λ u. (from, omega arith, omega arith, u))
      (λ u. let (m, l, k, v) = joined-out (suc from) count u in (m, omega arith, omega arith, v)) (Memᴰ.append_cases (list from) h)
