-- The order of assignments: no two come before each other.
use Prim.Native.Nat.{ℕ}
use mathlib.Core.Path.{◌≡◌, sym, ap₂, ◌∙◌, subst}
use mathlib.Core.List.{List}
use mathlib.Core.Bool.{true≢false}
use mathlib.Core.Logic.{◌⊎◌, ⊎_elim}
use native.Mathlib.Nat.{eq-or-lt_of_le}
use Rattle.subsumption.proofs.Bools.{le-or-lt}
use Rattle.matching.specs.Solving.{takes, Earlier}

differs : (a b : List ℕ) (x : Earlier a b) → takes b x.variable x.position ≡ takes a x.variable x.position → ⊥
differs a b x e = true≢false (sym x.taken ∙ e ∙ x.left_out)

module _ (a b : List ℕ) (x : Earlier a b) (y : Earlier b a) where
  in-turn : x.variable ≡ y.variable → ⊥
  in-turn e =
      ⊎_elim
      (λ l.
      ⊎_elim (λ f. true≢false (sym y.taken ∙ sym (ap₂ (takes a) e f) ∙ x.left_out))
      (λ m. differs a b x (subst (λ (z : ℕ). takes b z x.position ≡ takes a z x.position) (sym e) (y.same-positions x.position m)))
      (eq-or-lt_of_le l))
      (λ l. differs b a y (subst (λ (z : ℕ). takes a z y.position ≡ takes b z y.position) e (x.same-positions y.position l)))
      (le-or-lt x.position y.position)

  pub never_both : ⊥
  never_both =
      ⊎_elim (λ l. ⊎_elim in-turn (λ m. differs a b x (y.same-variables _ _ m)) (eq-or-lt_of_le l)) (λ l. differs b a y (x.same-variables _ _ l))
      (le-or-lt x.variable y.variable)

-- two that each come no later than the other are one
pub one-first : (a b : List ℕ) → (b ≡ a) ⊎ Earlier a b → (a ≡ b) ⊎ Earlier b a → a ≡ b
one-first a b f g = ⊎_elim (λ e. sym e) (λ x. ⊎_elim (λ e. e) (λ y. absurd (never_both a b x y)) g) f
