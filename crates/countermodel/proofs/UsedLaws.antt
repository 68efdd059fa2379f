-- The roles by which an element can have links; by any other role it has none.
use Prim.Native.Nat.{ℕ, ◌+◌, ◌<◌, ◌≤◌}
use mathlib.Core.Path.{◌≡◌, refl, sym, ap, ◌∙◌}
use mathlib.Core.List.{List, []}
use mathlib.Core.Bool.{Bool, true, false, false≢true}
use mathlib.Core.Logic.{⊎_elim}
use native.Mathlib.Omega.{arith}
use lib.ListN.{length, set, length-set}
use lib.Seq.{get_or-set_same, get_or-set_other}
use borrow.Author.Tests.{eq-eqb}
use Rattle.subsumption.specs.Tables.{Node, top_at, name_at, exists_at, and_at, var_at, node, count_of}
use Rattle.subsumption.specs.Inner.Atoms.{mark_at}
use Rattle.subsumption.specs.Inner.Roles.{in_set, RoleSets}
use Rattle.subsumption.proofs.Bools.{both_true, both-intro, any_below-intro, any_below-elim, last-cases, eq-or-ne}
use Rattle.countermodel.specs.Countermodel.{leads_to, is_linked, links_at, link_rows}
use Rattle.countermodel.specs.Inner.Show.{Checked, links_by, is_of, RolesOf, Widened, UsedRoles}
use Rattle.countermodel.proofs.PuttingLaws.{keep-none}

-- ---- the roles that one role counts as
pub record WidenedTo (into : List ℕ) (r : ℕ) (before after : List Bool) (s : ℕ) : Type 0 where
  pub within : s ≤ 100
  pub long : length after ≡ 100
  pub kept : (q : ℕ) → mark_at before q ≡ true → mark_at after q ≡ true
  pub wide : (q : ℕ) → q < s → in_set into r q ≡ true → mark_at after q ≡ true

module _ (into : List ℕ) (r : ℕ) (before : List Bool) where
  pub widened_none : length before ≡ 100 → WidenedTo into r before before 0
  widened_none l = record { within = omega arith; long = l; kept = λ q e. e; wide = λ q h e. absurd (omega arith) }

  module _ (mid : List Bool) (s : ℕ) (W : WidenedTo into r before mid s) (l : s < 100) (b : Bool) (e : b ≡ in_set into r s) where
    set_keeps : (q : ℕ) → mark_at mid q ≡ true → mark_at (set mid s true) q ≡ true
    set_keeps q h =
        ⊎_elim (λ (z : q ≡ s). ap (mark_at (set mid s true)) z ∙ get_or-set_same mid s true false (omega (arith, W.long)))
        (λ n. get_or-set_other mid s q true false n ∙ h) (eq-or-ne q s)

    pub widened-yes : WidenedTo into r before (set mid s true) (s + 1)
    widened-yes =
        record {
          within = omega arith;
          long = length-set mid s true ∙ W.long;
          kept = λ q h. set_keeps q (W.kept q h);
          wide =
              λ q h f.
              ⊎_elim (λ (z : q ≡ s). ap (mark_at (set mid s true)) z ∙ get_or-set_same mid s true false (omega (arith, W.long)))
              (λ m. set_keeps q (W.wide q m f)) (last-cases q s (omega arith));
        }

    pub widened-no : b ≡ false → WidenedTo into r before mid (s + 1)
    widened-no f =
        record {
          within = omega arith;
          long = W.long;
          kept = W.kept;
          wide =
              λ q h g.
              ⊎_elim (λ (z : q ≡ s). absurd (false≢true (sym f ∙ e ∙ ap (in_set into r) (sym z) ∙ g))) (λ m. W.wide q m g) (last-cases q s (omega arith));
        }

  pub widened-done : (after : List Bool) (s : ℕ) → WidenedTo into r before after s → 100 ≤ s → Widened into r before after
  widened-done after s W h = record { long = W.long; kept = W.kept; wide = λ q l. W.wide q (omega arith) }

-- ---- the roles that an own role counts as
pub record UsedTo (into : List ℕ) (own used : List Bool) (r : ℕ) : Type 0 where
  pub within : r ≤ 100
  pub long : length used ≡ 100
  pub wide : (q s : ℕ) → q < r → s < 100 → mark_at own q ≡ true → in_set into q s ≡ true → mark_at used s ≡ true

module _ (into : List ℕ) (own : List Bool) where
  pub used-none : (used : List Bool) → length used ≡ 100 → UsedTo into own used 0
  used-none used l = record { within = omega arith; long = l; wide = λ q s h k e f. absurd (omega arith) }

  module _ (used : List Bool) (r : ℕ) (U : UsedTo into own used r) (l : r < 100) where
    pub used-yes : (after : List Bool) → Widened into r used after → UsedTo into own after (r + 1)
    used-yes after W =
        record {
          within = omega arith;
          long = W.long;
          wide =
              λ q s h k e f.
              ⊎_elim (λ (z : q ≡ r). W.wide s k (ap (λ (x : ℕ). in_set into x s) (sym z) ∙ f)) (λ m. W.kept s (U.wide q s m k e f)) (last-cases q r (omega arith));
        }

    pub used-no : mark_at own r ≡ false → UsedTo into own used (r + 1)
    used-no n =
        record {
          within = omega arith;
          long = U.long;
          wide =
              λ q s h k e f.
              ⊎_elim (λ (z : q ≡ r). absurd (false≢true (sym n ∙ ap (mark_at own) (sym z) ∙ e))) (λ m. U.wide q s m k e f) (last-cases q r (omega arith));
        }

  pub used-done : (used : List Bool) (r : ℕ) → UsedTo into own used r → 100 ≤ r → UsedRoles into own used
  used-done used r U h = record { long = U.long; wide = λ q s l. U.wide q s (omega arith) }

-- ---- by a role that is not marked there are no links
module _ (concepts roles into : List ℕ) (marks : ℕ → ℕ → Bool) (i : ℕ) (own used : List Bool) (C : Checked concepts) (R : RoleSets roles into)
    (O : RolesOf concepts marks i own) (U : UsedRoles into own used) where
  leads-used : (s y j : ℕ) → s < 100 → j < count_of concepts → marks i j ≡ true → (n : Node) → node concepts j ≡ n → leads_to roles s y n ≡ true → mark_at used s ≡ true
  unfolding leads_to is_of
  leads-used s y j l h m top_at e t = absurd (false≢true t)
  leads-used s y j l h m (name_at n) e t = absurd (false≢true t)
  leads-used s y j l h m (exists_at r x) e t =
      let low = C.low-roles j r x e in
      U.wide r s low l
      (O.each r low ∙ any_below-intro _ _ j h (both-intro _ _ m (ap (is_of r) e ∙ eq-eqb r r refl)))
      (R.each r s low l ∙ (both_true _ _ t).0)
  leads-used s y j l h m (and_at a b) e t = absurd (false≢true t)
  leads-used s y j l h m (var_at k) e t = absurd (false≢true t)

  pub no-links : (s : ℕ) → s < 100 → mark_at used s ≡ false → links_by concepts roles marks i s ≡ []
  unfolding link_rows links_at is_linked
  no-links s l f = ap (link_rows i s) (keep-none _ 0 (count_of concepts) (λ y. none y (is_linked concepts roles marks i s y) refl))
    where
      none : (y : ℕ) (b : Bool) → is_linked concepts roles marks i s y ≡ b → is_linked concepts roles marks i s y ≡ false
      none y true e =
          let (j, h, t) = any_below-elim _ _ e in
          absurd (false≢true (sym f ∙ leads-used s y j l h (both_true _ _ t).0 (node concepts j) refl (both_true _ _ t).1))
      none y false e = e
