-- The memo: what it knows is right, and stays right when a right answer is noted.
use Prim.Native.Nat.{ℕ, ◌+◌, ◌*◌, ◌<◌}
use mathlib.Core.Path.{◌≡◌, refl, sym, ap, ap₂, ◌∙◌, subst}
use mathlib.Core.List.{List}
use mathlib.Core.Bool.{Bool, true, false}
use mathlib.Core.Logic.{⊎_elim}
use native.Mathlib.Omega.{arith}
use lib.ListN.{get_or, set, replicate, length-set, length-replicate}
use lib.Seq.{get_or-set_same, get_or-set_other}
use Rattle.subsumption.specs.Tables.{tree}
use Rattle.subsumption.proofs.Bools.{eq-or-ne}
use Rattle.countermodel.specs.Inner.Membership.{Right, IsIn, noted, Remembers, Walked}
use Rattle.countermodel.proofs.MemberLaws.Stretching.{all-zeros}
use Rattle.countermodel.proofs.MemberLaws.Scanning.{right-yes, right-no}

noted-yes : (b : Bool) → noted b ≡ 1 → b ≡ true
noted-yes true e = refl
noted-yes false e = absurd (omega arith)

noted-no : (b : Bool) → noted b ≡ 2 → b ≡ false
noted-no true e = absurd (omega arith)
noted-no false e = refl

-- a memo that knows nothing
pub remembers-none : (concepts atoms assignment rows : List ℕ) → Remembers concepts atoms assignment rows (replicate 36864 0)
remembers-none concepts atoms assignment rows =
    record {
      long = length-replicate {A = ℕ} 36864 0;
      yes = λ x i l e. absurd (no_answer 1 (sym (all-zeros 36864 (x * 192 + i)) ∙ e) (omega arith));
      no = λ x i l e. absurd (no_answer 2 (sym (all-zeros 36864 (x * 192 + i)) ∙ e) (omega arith));
    }
  where
    no_answer : (v : ℕ) → 0 ≡ v → 0 < v → ⊥
    no_answer v e h = omega arith

module _ (concepts atoms assignment rows memo : List ℕ) (M : Remembers concepts atoms assignment rows memo) (x i : ℕ) (low : i < 192) where
  pub known-yes : get_or memo (x * 192 + i) 0 ≡ 1 → Walked concepts atoms assignment rows (IsIn concepts atoms assignment rows (tree concepts i) x) memo true
  known-yes e = record { answered = right-yes (M.yes x i low e); remembered = M }

  pub known-no : get_or memo (x * 192 + i) 0 ≡ 2 → Walked concepts atoms assignment rows (IsIn concepts atoms assignment rows (tree concepts i) x) memo false
  known-no e = record { answered = right-no (M.no x i low e); remembered = M }

  module _ (within : x < 192) (answer : Bool) (R : Right answer (IsIn concepts atoms assignment rows (tree concepts i) x)) where
    -- what stands in a cell after it: the answer in its own, and no other changed
    own : (y j v : ℕ) → y * 192 + j ≡ x * 192 + i → get_or (set memo (x * 192 + i) (noted answer)) (y * 192 + j) 0 ≡ v → noted answer ≡ v
    own y j v q e =
        sym (get_or-set_same memo (x * 192 + i) (noted answer) 0 (omega (arith, M.long)))
        ∙ ap (λ (z : ℕ). get_or (set memo (x * 192 + i) (noted answer)) z 0) (sym q) ∙ e

    other : (y j v : ℕ) → (y * 192 + j ≡ x * 192 + i → ⊥) → get_or (set memo (x * 192 + i) (noted answer)) (y * 192 + j) 0 ≡ v → get_or memo (y * 192 + j) 0 ≡ v
    other y j v n e = sym (get_or-set_other memo (x * 192 + i) (y * 192 + j) (noted answer) 0 n) ∙ e

    -- the same cell is of the same element and id
    same : (y j : ℕ) → j < 192 → y * 192 + j ≡ x * 192 + i → IsIn concepts atoms assignment rows (tree concepts j) y ≡ IsIn concepts atoms assignment rows (tree concepts i) x
    same y j l q =
        let e : y ≡ x = omega arith in
        let f : j ≡ i = omega arith in
        ap₂ (λ (j y : ℕ). IsIn concepts atoms assignment rows (tree concepts j) y) f e

    pub remembers-more : Remembers concepts atoms assignment rows (set memo (x * 192 + i) (noted answer))
    remembers-more =
        record {
          long = length-set memo _ _ ∙ M.long;
          yes =
              λ y j l e.
              ⊎_elim (λ q. subst (λ (P : Type 0). P) (sym (same y j l q)) (R.yes (noted-yes answer (own y j 1 q e))))
              (λ n. M.yes y j l (other y j 1 n e)) (eq-or-ne (y * 192 + j) (x * 192 + i));
          no =
              λ y j l e h.
              ⊎_elim (λ q. R.no (noted-no answer (own y j 2 q e)) (subst (λ (P : Type 0). P) (same y j l q) h))
              (λ n. M.no y j l (other y j 2 n e) h) (eq-or-ne (y * 192 + j) (x * 192 + i));
        }
