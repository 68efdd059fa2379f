-- Lines of ids that pass a test: one id more, one line after the other.
use Prim.Native.Nat.{ℕ, ◌+◌, ◌<◌, ◌≤◌}
use mathlib.Core.Path.{◌≡◌, refl, sym, ap, ◌∙◌, subst}
use mathlib.Core.List.{List}
use mathlib.Core.Bool.{Bool, true, false, not}
use mathlib.Core.Logic.{inl, inr, ⊎_elim}
use native.Mathlib.Omega.{arith}
use lib.Dec.{eqb, ltb}
use lib.ListN.{length, get_or}
use borrow.Author.Tests.{eq-eqb, ne_eqb, eqb-true, lt-ltb, le-ltb}
use Rattle.subsumption.specs.Tables.{or, both}
use Rattle.subsumption.specs.Inner.Roles.{in_set}
use Rattle.subsumption.proofs.Bools.{or-first, or-second, or-skip, or_cases, both-none, both-skip, both-second, both-intro, same_bool, le-or-lt, eq-or-ne}
use Rattle.square.specs.Inner.Square.{on_line}
use Rattle.square.specs.Inner.Sets.{Inserted}
use Rattle.matching.specs.Inner.Search.Problem.{fit_at, counting}
use Rattle.matching.specs.Inner.Search.Making.{kind_at, first_at, Outside, Filled, fits_by, is_open_at, fits_in, is_closer}

-- ---- one line
or_assoc : (a b c : Bool) → or a (or b c) ≡ or (or a b) c
unfolding or
or_assoc true b c = refl
or_assoc false b c = refl

pub filled_none : (at : ℕ) (sets : List ℕ) → Filled at (λ q. false) sets sets
unfolding or
filled_none at sets = record { long = refl; here = λ q l. refl; there = λ x q l o. refl }

pub filled-as : (at : ℕ) (f g : ℕ → Bool) (a b : List ℕ) → ((q : ℕ) → f q ≡ g q) → Filled at f a b → Filled at g a b
filled-as at f g a b e F =
    record { long = F.long; here = λ q l. F.here q l ∙ ap (λ (z : Bool). or z (on_line a at q)) (e q); there = F.there }

pub filled-then : (at : ℕ) (f g : ℕ → Bool) (a b c : List ℕ) → Filled at f a b → Filled at g b c → Filled at (λ q. or (g q) (f q)) a c
filled-then at f g a b c F G =
    record {
      long = G.long ∙ F.long;
      here = λ q l. G.here q l ∙ ap (or (g q)) (F.here q l) ∙ or_assoc (g q) (f q) (on_line a at q);
      there = λ x q l o. G.there x q l o ∙ F.there x q l o;
    }

pub filled-one : (at y : ℕ) (a b : List ℕ) → Inserted a b at y → Filled at (λ q. eqb q y) a b
filled-one at y a b I =
    record {
      long = I.long;
      here =
          λ q l.
          same_bool (on_line b at q) (or (eqb q y) (on_line a at q))
          (λ u. ⊎_elim (λ v. or-second (eqb q y) _ v) (λ v. or-first (eqb q y) _ (eq-eqb q y v)) (I.bits q l u))
          (λ u.
          ⊎_elim (λ v. subst (λ (z : ℕ). on_line b at z ≡ true) (sym (eqb-true q y v)) I.taken) (λ v. I.kept at q v)
          (or_cases (eqb q y) _ u));
      there = I.there;
    }

-- ---- a walk through the ids
abbrev pub up_to : (ℕ → Bool) → ℕ → ℕ → Bool
up_to test e q = both (ltb q e) (test q)

same-below : (q e : ℕ) → (q ≡ e → ⊥) → ltb q e ≡ ltb q (e + 1)
same-below q e n =
    ⊎_elim (λ h. le-ltb q e h ∙ sym (le-ltb q (e + 1) (omega arith))) (λ h. lt-ltb q e h ∙ sym (lt-ltb q (e + 1) (omega arith)))
    (le-or-lt e q)

module _ (at : ℕ) (test : ℕ → Bool) where
  pub walk_none : (a : List ℕ) → Filled at (up_to test 0) a a
  walk_none a = filled-as at (λ q. false) (up_to test 0) a a (λ q. sym (both-none _ _ (le-ltb q 0 (omega arith)))) (filled_none at a)

  pub walk_more : (e : ℕ) (a b c : List ℕ) → test e ≡ true → Filled at (up_to test e) a b → Inserted b c at e → Filled at (up_to test (e + 1)) a c
  walk_more e a b c t F I =
      filled-as at (λ q. or (eqb q e) (up_to test e q)) (up_to test (e + 1)) a c step
      (filled-then at (up_to test e) (λ q. eqb q e) a b c F (filled-one at e b c I))
    where
      step : (q : ℕ) → or (eqb q e) (up_to test e q) ≡ up_to test (e + 1) q
      step q =
          ⊎_elim
          (λ (u : q ≡ e).
          or-first _ _ (eq-eqb q e u) ∙ sym (both-intro _ _ (lt-ltb q (e + 1) (omega arith)) (subst (λ (z : ℕ). test z ≡ true) (sym u) t)))
          (λ n. or-skip _ _ (ne_eqb q e n) ∙ ap (λ (z : Bool). both z (test q)) (same-below q e n)) (eq-or-ne q e)

  pub walk-skip : (e : ℕ) (a b : List ℕ) → test e ≡ false → Filled at (up_to test e) a b → Filled at (up_to test (e + 1)) a b
  walk-skip e a b t F = filled-as at (up_to test e) (up_to test (e + 1)) a b step F
    where
      step : (q : ℕ) → up_to test e q ≡ up_to test (e + 1) q
      step q =
          ⊎_elim
          (λ (u : q ≡ e).
          let v : test q ≡ false = subst (λ (z : ℕ). test z ≡ false) (sym u) t in both-second (ltb q e) (test q) v ∙ sym (both-second (ltb q (e + 1)) (test q) v))
          (λ n. ap (λ (z : Bool). both z (test q)) (same-below q e n)) (eq-or-ne q e)

  pub walk-done : (e count : ℕ) (a b : List ℕ) → e ≤ count → count ≤ e → Filled at (up_to test e) a b → Filled at (up_to test count) a b
  walk-done e count a b h l F = let u : e ≡ count = omega arith in subst (λ (z : ℕ). Filled at (up_to test z) a b) u F

-- ---- the tests
module _ (problem : List ℕ) (e : ℕ) where
  pub closer-held : get_or problem (576 + e) 0 ≡ 1 → false ≡ is_closer problem e
  unfolding is_closer
  closer-held h = sym (both-none _ _ (ap not (eq-eqb _ 1 h)))

  pub closer-top : (get_or problem (576 + e) 0 ≡ 1 → ⊥) → kind_at problem e ≡ 0 → true ≡ is_closer problem e
  unfolding is_closer
  closer-top n h = sym (both-intro _ _ (ap not (ne_eqb _ 1 n)) (or-first _ _ (eq-eqb _ 0 h)))

  pub closer-and : (get_or problem (576 + e) 0 ≡ 1 → ⊥) → (kind_at problem e ≡ 0 → ⊥) → eqb (kind_at problem e) 3 ≡ is_closer problem e
  unfolding is_closer
  closer-and n h = sym (both-skip _ _ (ap not (ne_eqb _ 1 n)) ∙ or-skip _ _ (ne_eqb _ 0 h))

  module _ (into : List ℕ) (right : Bool) (j : ℕ) where
    pub fit-other : (kind_at problem e ≡ 2 → ⊥) → false ≡ fits_by problem into right j e
    unfolding fits_by
    fit-other n = sym (both-none _ _ (ne_eqb _ 2 n))

    pub fit-held : get_or problem (576 + e) 0 ≡ 1 → false ≡ fits_by problem into right j e
    unfolding fits_by
    fit-held h = sym (both-second (eqb (kind_at problem e) 2) _ (both-none _ _ (ap not (eq-eqb _ 1 h))))

    pub fit-counts :
        kind_at problem e ≡ 2 → (get_or problem (576 + e) 0 ≡ 1 → ⊥) → (side r : Bool) → right ≡ side
        → r ≡ counting side (in_set into) (first_at problem j) (first_at problem e) → r ≡ fits_by problem into right j e
    unfolding fits_by
    fit-counts h n side r s u =
        u ∙ ap (λ (z : Bool). counting z (in_set into) (first_at problem j) (first_at problem e)) (sym s)
        ∙ sym (both-skip _ _ (eq-eqb _ 2 h) ∙ both-skip _ _ (ap not (ne_eqb _ 1 n)))

-- ---- the lines of the existentials that fit
fits-apart : (right : Bool) (j k : ℕ) → j < k → fit_at right j + 3 ≤ fit_at right k
fits-apart true j k l = omega arith
fits-apart false j k l = omega arith

fits-inside : (right : Bool) (k : ℕ) → k < 192 → (fit_at right 0 ≤ fit_at right k) × (fit_at right k + 3 ≤ fit_at right 192)
fits-inside true k l = (omega arith, omega arith)
fits-inside false k l = (omega arith, omega arith)

module _ (problem into : List ℕ) (count : ℕ) (right : Bool) (before : List ℕ) where
  pub record FitsTo (k : ℕ) (after : List ℕ) : Type 0 where
    pub within : k ≤ count
    pub long : length after ≡ length before
    pub done :
        (j q : ℕ) → j < k → q < 192 → on_line after (fit_at right j) q ≡ or (fits_in problem into count right j q) (on_line before (fit_at right j) q)
    pub rest : (j q : ℕ) → k ≤ j → j < 192 → q < 192 → on_line after (fit_at right j) q ≡ on_line before (fit_at right j) q
    pub there : Outside (fit_at right 0) (fit_at right 192) before after

  module _ (k : ℕ) (mid : List ℕ) (few : count ≤ 192) (F : FitsTo k mid) (low : k < count) where
    pub fits-skip : is_open_at problem k ≡ false → FitsTo (k + 1) mid
    unfolding fits_in
    fits-skip n =
        record {
          within = omega arith;
          long = F.long;
          done =
              λ j q l h.
              ⊎_elim
              (λ (u : j ≡ k).
              F.rest j q (omega arith) (omega arith) h
              ∙ sym (or-skip _ _ (both-none _ _ (subst (λ (z : ℕ). is_open_at problem z ≡ false) (sym u) n))))
              (λ (u : j ≡ k → ⊥). F.done j q (omega arith) h) (eq-or-ne j k);
          rest = λ j q l h m. F.rest j q (omega arith) h m;
          there = F.there;
        }

    module _ (after : List ℕ) (G : Filled (fit_at right k) (up_to (fits_by problem into right k) count) mid after) (open-one : is_open_at problem k ≡ true) where
      own : (q : ℕ) → q < 192 → on_line after (fit_at right k) q ≡ or (fits_in problem into count right k q) (on_line before (fit_at right k) q)
      unfolding fits_in
      own q l =
          G.here q l ∙ ap (or (up_to (fits_by problem into right k) count q)) (F.rest k q (omega arith) (omega arith) l)
          ∙ ap (λ (z : Bool). or z (on_line before (fit_at right k) q)) (sym (both-skip _ _ open-one))

      pub fits_more : FitsTo (k + 1) after
      fits_more =
          record {
            within = omega arith;
            long = G.long ∙ F.long;
            done =
                λ j q l h.
                ⊎_elim
                (λ (u : j ≡ k).
                subst (λ (z : ℕ). on_line after (fit_at right z) q ≡ or (fits_in problem into count right z q) (on_line before (fit_at right z) q)) (sym u) (own q h))
                (λ (u : j ≡ k → ⊥). G.there (fit_at right j) q h (inl (fits-apart right j k (omega arith))) ∙ F.done j q (omega arith) h)
                (eq-or-ne j k);
            rest =
                λ j q l h m. G.there (fit_at right j) q m (inr (fits-apart right k j (omega arith))) ∙ F.rest j q (omega arith) h m;
            there =
                λ x q l o.
                G.there x q l
                (⊎_elim (λ (u : x + 3 ≤ fit_at right 0). inl (omega (arith, (fits-inside right k (omega arith)).0)))
                (λ (u : fit_at right 192 ≤ x). inr (omega (arith, (fits-inside right k (omega arith)).1))) o)
                ∙ F.there x q l o;
          }

pub open-held : (problem : List ℕ) (j : ℕ) → kind_at problem j ≡ 2 → get_or problem (576 + j) 0 ≡ 1 → is_open_at problem j ≡ true
unfolding is_open_at
open-held problem j h e = both-intro _ _ (eq-eqb _ 2 h) (eq-eqb _ 1 e)

pub open-other : (problem : List ℕ) (j : ℕ) → (kind_at problem j ≡ 2 → ⊥) → is_open_at problem j ≡ false
unfolding is_open_at
open-other problem j n = both-none _ _ (ne_eqb _ 2 n)

pub open_free : (problem : List ℕ) (j : ℕ) → (get_or problem (576 + j) 0 ≡ 1 → ⊥) → is_open_at problem j ≡ false
unfolding is_open_at
open_free problem j n = both-second (eqb (kind_at problem j) 2) _ (ne_eqb _ 1 n)
