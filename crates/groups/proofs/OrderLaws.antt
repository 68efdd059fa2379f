-- The order of assignments: of two accepted ones that differ one comes before the other.
use Rattle.subsumption.specs.Refusal.{Done}
use Prim.Native.Nat.{ℕ, zero, suc, ◌<◌}
use mathlib.Core.Path.{◌≡◌, refl, sym, ap, ◌∙◌, subst}
use mathlib.Core.List.{List}
use mathlib.Core.Bool.{Bool, true, false}
use mathlib.Core.Logic.{◌⊎◌, inl, inr, ⊎_elim}
use native.Mathlib.Omega.{arith}
use lib.ListN.{length, get_or}
use lib.Seq.{ext_get_or}
use Rattle.subsumption.specs.Tables.{Tables}
use Rattle.subsumption.specs.Atoms.{atoms, bit}
use Rattle.subsumption.specs.Check.{assignment_fault}
use Rattle.subsumption.proofs.Bools.{last-cases, eq-or-ne, same_bool}
use Rattle.matching.specs.Solving.{takes, Earlier}
use Rattle.matching.proofs.SearchLaws.Choices.{same_bits}
use Rattle.matching.proofs.SearchLaws.Fronts.{accepted-long, accepted-bits}

-- ---- the first place where something else holds
pub record FirstPlace (A B : ℕ → Type 0) (n : ℕ) : Type 0 where
  pub place : ℕ
  pub below : place < n
  pub here : B place
  pub before : (i : ℕ) → i < place → A i

pub first-place : (A B : ℕ → Type 0) (n : ℕ) → ((i : ℕ) → i < n → A i ⊎ B i) → ((i : ℕ) → i < n → A i) ⊎ FirstPlace A B n
first-place A B zero decide = inl (λ i l. absurd (omega arith))
first-place A B (suc n) decide =
    ⊎_elim
    (λ all.
    ⊎_elim (λ h. inl (λ i l. ⊎_elim (λ (e : i ≡ n). subst A (sym e) h) (all i) (last-cases i n l)))
    (λ h. inr (record { place = n; below = omega arith; here = h; before = all })) (decide n (omega arith)))
    (λ p. inr (record { place = p.place; below = omega (arith, p.below); here = p.here; before = p.before }))
    (first-place A B n (λ i l. decide i (omega arith)))

-- ---- accepted assignments that differ
abbrev Apart : Bool → Bool → Type 0
Apart x y = ((x ≡ false) × (y ≡ true)) ⊎ ((y ≡ false) × (x ≡ true))

same-or-apart : (x y : Bool) → (x ≡ y) ⊎ Apart x y
same-or-apart true true = inl refl
same-or-apart true false = inr (inr (refl, refl))
same-or-apart false true = inr (inl (refl, refl))
same-or-apart false false = inl refl

module _ (t : Tables) (a b : List ℕ) (h : assignment_fault t a ≡ Done) (g : assignment_fault t b ≡ Done) where
  -- at the first variable where the numbers differ, at the first position where the bits differ
  at_place :
      (k q : ℕ) → ((i : ℕ) → i < k → get_or a i 0 ≡ get_or b i 0) → ((i : ℕ) → i < q → takes a k i ≡ takes b k i) → Apart (takes a k q) (takes b k q)
      → Earlier a b ⊎ Earlier b a
  at_place k q same agree apart =
      ⊎_elim
      (λ (x : (takes a k q ≡ false) × (takes b k q ≡ true)).
      inl
      (record {
        variable = k;
        position = q;
        left_out = x.0;
        taken = x.1;
        same-variables = λ i p l. ap (λ (z : ℕ). bit z p) (same i l);
        same-positions = agree;
      }))
      (λ x.
      inr
      (record {
        variable = k;
        position = q;
        left_out = x.0;
        taken = x.1;
        same-variables = λ i p l. ap (λ (z : ℕ). bit z p) (sym (same i l));
        same-positions = λ i l. sym (agree i l);
      }))
      apart

  -- past the atoms neither takes anything
  same_number : (k : ℕ) → ((q : ℕ) → q < length (atoms t) → takes a k q ≡ takes b k q) → get_or a k 0 ≡ get_or b k 0
  same_number k same =
      same_bits _ _
      (λ q. same_bool _ _ (λ e. sym (same q (accepted-bits t a h k q e).1) ∙ e) (λ e. same q (accepted-bits t b g k q e).1 ∙ e))

  pub same-or-earlier : (b ≡ a) ⊎ (Earlier a b ⊎ Earlier b a)
  same-or-earlier =
      ⊎_elim
      (λ same. inl (sym (ext_get_or 0 a b (accepted-long t a h ∙ sym (accepted-long t b g)) (λ k l. same k (omega (arith, accepted-long t a h))))))
      (λ v.
      ⊎_elim (λ agree. absurd (v.here (same_number v.place agree)))
      (λ p. inr (at_place v.place p.place v.before p.before p.here))
      (first-place _ _ (length (atoms t)) (λ q l. same-or-apart (takes a v.place q) (takes b v.place q))))
      (first-place _ _ t.variables (λ k l. eq-or-ne (get_or a k 0) (get_or b k 0)))
