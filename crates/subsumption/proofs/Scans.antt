-- A scan for the lowest place at fault: what is left of it at place i.
use Rattle.std.specs.Prelude.{Err}
use Prim.Native.Nat.{ℕ, suc, ◌+◌, ◌-◌, ◌<◌, ◌≤◌}
use mathlib.Core.Path.{◌≡◌, refl, sym, ◌∙◌, ap}
use mathlib.Core.Bool.{Bool, true, false}
use native.Mathlib.Omega.{arith}
use native.Mathlib.Numerals.{add-one}
use Rattle.subsumption.specs.declared.refusal.Refusal.{Refusal}
use Rattle.subsumption.specs.Refusal.{or_else, refuse_if, first_at, Done}

module _ (refusal : ℕ → Refusal) (faulty : ℕ → Bool) (count : ℕ) where
  -- nothing was found below i
  pub record Scan (i : ℕ) : Type 0 where
    pub within : i ≤ count
    pub left : first_at refusal faulty 0 count ≡ first_at refusal faulty i (count - i)

  pub scan-none : Scan 0
  scan-none = record { within = omega arith; left = ap (first_at refusal faulty 0) (omega arith) }

  split : (i : ℕ) → i < count → count - i ≡ suc (count - (i + 1))
  split i h = omega arith

  pub scan-more : (i : ℕ) → Scan i → i < count → faulty i ≡ false → Scan (i + 1)
  unfolding first_at or_else refuse_if
  scan-more i s h e =
      record {
        within = omega arith;
        left = s.left ∙ ap (first_at refusal faulty i) (split i h) ∙ rw e (rw add-one refl);
      }

  pub scan-found : (i : ℕ) → Scan i → i < count → faulty i ≡ true → Err (refusal i) ≡ first_at refusal faulty 0 count
  unfolding first_at or_else refuse_if
  scan-found i s h e = sym (s.left ∙ ap (first_at refusal faulty i) (split i h) ∙ rw e)

  pub scan-done : (i : ℕ) → Scan i → count ≤ i → Done ≡ first_at refusal faulty 0 count
  unfolding first_at
  scan-done i s h = sym (s.left ∙ ap (first_at refusal faulty i) (none_left h))
    where
      none_left : count ≤ i → count - i ≡ 0
      none_left h = omega arith
