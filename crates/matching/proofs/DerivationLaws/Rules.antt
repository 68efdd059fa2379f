-- The tests of the rules, as the code goes through them: one law for each branch.
use Prim.Native.Nat.{ℕ, ◌+◌, ◌/◌, ◌%◌, ◌^◌, ◌<◌, ◌≤◌}
use mathlib.Core.Path.{◌≡◌, refl, sym, ap, ◌∙◌, subst}
use mathlib.Core.List.{List, Memᴰ}
use mathlib.Core.Bool.{Bool, true, false, false≢true}
use mathlib.Core.Logic.{⊎_elim}
use native.Mathlib.Omega.{arith}
use lib.Dec.{ltb}
use lib.ListN.{length, get_or}
use borrow.Author.Tests.{eqb-true, eq-eqb, lt-ltb, le-ltb}
use Rattle.subsumption.specs.declared.tables.Pair.{Pair}
use Rattle.subsumption.specs.Tables.{both, decode, pairs_of, left_of, right_of}
use Rattle.subsumption.specs.Inner.Tables.{pair_of}
use Rattle.subsumption.specs.Atoms.{bit, pick}
use Rattle.subsumption.specs.Inner.Atoms.{Known}
use Rattle.subsumption.specs.Rules.{every, contains, on_both}
use Rattle.subsumption.proofs.Bools.{both-none, last-cases}
use Rattle.subsumption.proofs.Chosen.{pick-member, pick_intro}
use Rattle.subsumption.proofs.RuleTests.{every-elim, every-intro, contains-elim, contains-intro}
use Rattle.matching.specs.Inner.Derivation.{KnownAtoms}

-- ---- rule 4
module _ (k a b : ℕ) where
  pub both_first : (test : ℕ → Bool) (x : Bool) → k ≡ 3 → x ≡ test a → x ≡ false → false ≡ on_both test (decode k a b)
  unfolding decode on_both
  both_first test x e f g = rw e (rw (both-none (test a) (test b) (sym f ∙ g)) refl)

-- ---- rule 6
module _ (test : ℕ → ℕ → Bool) (inclusions : List ℕ) (left right extra : ℕ) where
  pub inclusion-past : pairs_of inclusions ≤ extra → false ≡ both (ltb extra (pairs_of inclusions)) (both (test left (left_of inclusions extra)) (test (right_of inclusions extra) right))
  unfolding both
  inclusion-past h = rw (le-ltb extra (pairs_of inclusions) h)

  pub inclusion-second :
      (pair : Pair) (x y : Bool) → extra < pairs_of inclusions → pair ≡ pair_of inclusions extra → x ≡ test left pair.left → x ≡ true → y ≡ test pair.right right
      → y ≡ both (ltb extra (pairs_of inclusions)) (both (test left (left_of inclusions extra)) (test (right_of inclusions extra) right))
  unfolding both
  inclusion-second pair x y h e f g k =
      let p : test left (left_of inclusions extra) ≡ true = ap (λ (z : Pair). test left z.left) (sym e) ∙ sym f ∙ g in
      rw (lt-ltb extra (pairs_of inclusions) h, p) (k ∙ ap (λ (z : Pair). test z.right right) e)

  pub inclusion-first :
      (pair : Pair) (x : Bool) → extra < pairs_of inclusions → pair ≡ pair_of inclusions extra → x ≡ test left pair.left → x ≡ false
      → false ≡ both (ltb extra (pairs_of inclusions)) (both (test left (left_of inclusions extra)) (test (right_of inclusions extra) right))
  unfolding both
  inclusion-first pair x h e f g =
      let p : test left (left_of inclusions extra) ≡ false = ap (λ (z : Pair). test left z.left) (sym e) ∙ sym f ∙ g in
      rw (lt-ltb extra (pairs_of inclusions) h, p)

module _ (count : ℕ) (inclusions : List ℕ) (extra : ℕ) (pair : Pair) (known : Known count inclusions) (h : extra < pairs_of inclusions) (e : pair ≡ pair_of inclusions extra) where
  pub pair_left : pair.left < count
  pair_left = subst (λ (z : Pair). z.left < count) (sym e) (known.left-known extra h)

  pub pair-right : pair.right < count
  pair-right = subst (λ (z : Pair). z.right < count) (sym e) (known.right-known extra h)

-- ---- rules 7 and 8
pub skipped : (choice q : ℕ) → choice / 2 ^ q % 2 ≡ 0 → bit choice q ≡ true → ⊥
unfolding bit
skipped choice q e h = omega (arith, eqb-true (choice / 2 ^ q % 2) 1 h)

pub picked : (choice q : ℕ) → (choice / 2 ^ q % 2 ≡ 0 → ⊥) → bit choice q ≡ true
unfolding bit
picked choice q ne = eq-eqb (choice / 2 ^ q % 2) 1 (omega arith)

-- of the chosen ids at the places below n, each passes
pub record AllBelow (ids : List ℕ) (choice : ℕ) (P : ℕ → Type 0) (n : ℕ) : Type 0 where
  pub each : (m : ℕ) → m < n → bit choice m ≡ true → P (get_or ids m 0)

module _ (ids : List ℕ) (choice : ℕ) (P : ℕ → Type 0) where
  pub all_none : AllBelow ids choice P 0
  all_none = record { each = λ m h b. absurd (omega arith) }

  pub all-skip : (q : ℕ) → AllBelow ids choice P q → choice / 2 ^ q % 2 ≡ 0 → AllBelow ids choice P (q + 1)
  all-skip q h e =
      record {
        each = λ m l b.
            ⊎_elim (λ (u : m ≡ q). absurd (skipped choice q e (subst (λ (z : ℕ). bit choice z ≡ true) u b))) (λ u. h.each m u b) (last-cases m q (omega arith));
      }

  pub all_more : (q x : ℕ) → AllBelow ids choice P q → x ≡ get_or ids q 0 → P x → AllBelow ids choice P (q + 1)
  all_more q x h e p =
      record {
        each = λ m l b.
            ⊎_elim (λ (u : m ≡ q). subst P (e ∙ ap (λ (z : ℕ). get_or ids z 0) (sym u)) p) (λ u. h.each m u b) (last-cases m q (omega arith));
      }

  pub all_done : (q : ℕ) → AllBelow ids choice P q → length ids ≤ q → (p : ℕ) → Memᴰ p (pick ids choice) → P p
  all_done q h l p m =
      let c = pick-member ids choice p m in
      subst P c.here (h.each c.place (omega (arith, c.known)) c.chosen)

pub picked-member : (ids : List ℕ) (choice q x : ℕ) → q < length ids → (choice / 2 ^ q % 2 ≡ 0 → ⊥) → x ≡ get_or ids q 0 → Memᴰ x (pick ids choice)
picked-member ids choice q x l ne e =
    pick_intro ids choice x (record { place = q; known = l; chosen = picked choice q ne; here = sym e })

refuted : (x : Bool) → (x ≡ true → ⊥) → false ≡ x
refuted true h = absurd (h refl)
refuted false h = refl

pub chosen-found :
    (ids : List ℕ) (choice q id x : ℕ) → q < length ids → (choice / 2 ^ q % 2 ≡ 0 → ⊥) → x ≡ get_or ids q 0 → x ≡ id → true ≡ contains id (pick ids choice)
chosen-found ids choice q id x l ne e f = sym (contains-intro (picked-member ids choice q id l ne (sym f ∙ e)))

pub chosen_none : (ids : List ℕ) (choice id q : ℕ) → AllBelow ids choice (λ p. p ≡ id → ⊥) q → length ids ≤ q → false ≡ contains id (pick ids choice)
chosen_none ids choice id q h l = refuted _ (λ e. all_done ids choice (λ p. p ≡ id → ⊥) q h l id (contains-elim id _ e) refl)

pub marked_all : (ids : List ℕ) (choice : ℕ) (test : ℕ → Bool) (q : ℕ) → AllBelow ids choice (λ p. test p ≡ true) q → length ids ≤ q → true ≡ every test (pick ids choice)
marked_all ids choice test q h l = sym (every-intro test _ (all_done ids choice (λ p. test p ≡ true) q h l))

pub marked-not :
    (ids : List ℕ) (choice : ℕ) (test : ℕ → Bool) (q x : ℕ) (r : Bool) → q < length ids → (choice / 2 ^ q % 2 ≡ 0 → ⊥) → x ≡ get_or ids q 0 → r ≡ test x → r ≡ false
    → false ≡ every test (pick ids choice)
marked-not ids choice test q x r l ne e f g =
    refuted _ (λ h. false≢true (sym g ∙ f ∙ every-elim test _ h x (picked-member ids choice q x l ne e)))

-- rule 7: past the ids, no extra is chosen
pub chosen-past : (count : ℕ) (ids : List ℕ) (choice extra : ℕ) → KnownAtoms count ids → count ≤ extra → false ≡ contains extra (pick ids choice)
chosen-past count ids choice extra known h =
    refuted _ (λ u. let c = pick-member ids choice extra (contains-elim extra _ u) in absurd (omega (arith, known.atoms-known c.place c.known, c.here)))
