-- The checks of a given interpretation: when each refuses, and what a passed one tells.
use Rattle.std.specs.Prelude.{Err}
use Rattle.subsumption.specs.Refusal.{Done}
use Prim.Native.Nat.{ℕ, zero, suc, ◌%◌, ◌<◌, ◌≤◌}
use mathlib.Core.Path.{◌≡◌, refl, sym, ap, ◌∙◌}
use mathlib.Core.List.{List}
use mathlib.Core.Bool.{true, false, not, true≢false}
use native.Mathlib.Omega.{arith}
use lib.Dec.{eqb, ltb, leb}
use lib.ListN.{length}
use borrow.Author.Tests.{eq-eqb, ne_eqb, lt-ltb, le-ltb, eqb-true, ltb-true, ltb-false, not-false}
use Rattle.subsumption.specs.declared.refusal.Refusal.TheVariants.{Limit, NoConcept}
use Rattle.subsumption.specs.Tables.{or}
use Rattle.subsumption.proofs.Bools.{or-first, or-second, or-false, or-skip}
use Rattle.subsumption.proofs.Forward.{leb-not-ltb}
use Rattle.subsumption.proofs.Refusals.{refused-if, done-if, stops, goes_on, passed_first, passed-second, passed-if, passed-at}
use Rattle.countermodel.specs.Rows.{rows_of, at}
use Rattle.countermodel.specs.Membership.{size_fault, bad_row, rows_fault, element_fault}
use Rattle.countermodel.specs.Inner.Membership.{kind_at, LowRows}
use Rattle.countermodel.proofs.RowMembers.{kind-at}

-- ---- check 1
module _ (size : ℕ) (rows : List ℕ) where
  pub size_none : size ≡ 0 → Err (Limit 0) ≡ size_fault size rows
  unfolding size_fault
  size_none e = refused-if _ _ (or-first _ _ (eq-eqb size 0 e))

  pub size-over : 192 < size → Err (Limit 0) ≡ size_fault size rows
  unfolding size_fault
  size-over h = refused-if _ _ (or-second (eqb size 0) _ (or-first _ _ (lt-ltb 192 size h)))

  pub size-ragged : (length rows % 4 ≡ 0 → ⊥) → Err (Limit 0) ≡ size_fault size rows
  unfolding size_fault
  size-ragged h = refused-if _ _ (or-second (eqb size 0) _ (or-second (ltb 192 size) _ (ap not (ne_eqb _ 0 h))))

  pub size-right : (size ≡ 0 → ⊥) → size ≤ 192 → length rows % 4 ≡ 0 → Done ≡ size_fault size rows
  unfolding size_fault
  size-right h l e =
      done-if _ _ (or-skip _ _ (ne_eqb size 0 h) ∙ or-skip _ _ (le-ltb 192 size l) ∙ ap not (eq-eqb _ 0 e))

  pub size_few : size_fault size rows ≡ Done → size ≤ 192
  unfolding size_fault
  size_few h = ltb-false _ _ (or-false _ _ (or-false _ _ (passed-if _ _ h)).1).0

-- ---- check 2, by the kind of a row
module _ (size k x last : ℕ) where
  pub name-element : k ≡ 0 → size ≤ x → true ≡ bad_row size k x last
  unfolding bad_row or
  name-element e h = rw (e, le-ltb x size h)

  pub name-last : k ≡ 0 → x < size → not (eqb last 0) ≡ bad_row size k x last
  unfolding bad_row or
  name-last e h = rw (e, lt-ltb x size h)

  pub link-element : k ≡ 1 → size ≤ x → true ≡ bad_row size k x last
  unfolding bad_row or
  link-element e h = rw (e, le-ltb x size h)

  pub link-last : k ≡ 1 → x < size → leb size last ≡ bad_row size k x last
  unfolding bad_row or
  link-last e h = rw (e, lt-ltb x size h, leb-not-ltb size last)

pub other-kind : (size k x last : ℕ) → (k ≡ 0 → ⊥) → (k ≡ 1 → ⊥) → true ≡ bad_row size k x last
unfolding bad_row
other-kind size zero x last h0 h1 = absurd (h0 refl)
other-kind size (suc zero) x last h0 h1 = absurd (h1 refl)
other-kind size (suc (suc k)) x last h0 h1 = refl

-- the row as the code reads it
pub bad-row-at :
    (size : ℕ) (rows : List ℕ) (p : ℕ) → bad_row size (at rows p 0) (at rows p 1) (at rows p 3) ≡ bad_row size (kind_at rows p) (at rows p 1) (at rows p 3)
bad-row-at size rows p = ap (λ (z : ℕ). bad_row size z (at rows p 1) (at rows p 3)) (kind-at rows p)

right-kind : (size k x last : ℕ) → bad_row size k x last ≡ false → k < 2
unfolding bad_row
right-kind size zero x last h = omega arith
right-kind size (suc zero) x last h = omega arith
right-kind size (suc (suc k)) x last h = absurd (true≢false h)

right-left : (size k x last : ℕ) → bad_row size k x last ≡ false → x < size
unfolding bad_row
right-left size zero x last h = ltb-true _ _ (not-false _ (or-false _ _ h).0)
right-left size (suc zero) x last h = ltb-true _ _ (not-false _ (or-false _ _ h).0)
right-left size (suc (suc k)) x last h = absurd (true≢false h)

right-last : (size k x last : ℕ) → bad_row size k x last ≡ false → last < size
unfolding bad_row
right-last size zero x last h =
    omega (arith, eqb-true last 0 (not-false _ (or-false (not (ltb x size)) _ h).1), ltb-true x size (not-false _ (or-false _ _ h).0))
right-last size (suc zero) x last h = ltb-true _ _ (not-false _ (or-false _ _ h).1)
right-last size (suc (suc k)) x last h = absurd (true≢false h)

module _ (size : ℕ) (rows : List ℕ) (h : rows_fault size rows ≡ Done) (p : ℕ) (l : p < rows_of rows) where
  right-row : bad_row size (at rows p 0) (at rows p 1) (at rows p 3) ≡ false
  unfolding rows_fault
  right-row = passed-at _ (λ p. bad_row size (at rows p 0) (at rows p 1) (at rows p 3)) 0 _ h p (omega arith) (omega arith)

  row-left : at rows p 1 < size
  row-left = right-left size (at rows p 0) _ (at rows p 3) right-row

  pub row_last : at rows p 3 < size
  row_last = right-last size (at rows p 0) (at rows p 1) _ right-row

pub low_rows : (size : ℕ) (rows : List ℕ) → size_fault size rows ≡ Done → rows_fault size rows ≡ Done → LowRows rows
low_rows size rows s h =
    record {
      kinds = λ p l. right-kind size _ (at rows p 1) (at rows p 3) (sym (bad-row-at size rows p) ∙ right-row size rows h p l);
      left = λ p l. omega (arith, row-left size rows h p l, size_few size rows s);
      right = λ p l. omega (arith, row_last size rows h p l, size_few size rows s);
    }

-- ---- check 4
module _ (count size concept element : ℕ) where
  pub no-concept : count ≤ concept → Err (NoConcept 0) ≡ element_fault count size concept element
  unfolding element_fault
  no-concept h = stops _ _ _ _ (refused-if _ (NoConcept 0) (ap not (le-ltb concept count h))) refl

  pub no-element : concept < count → size ≤ element → Err (NoConcept 1) ≡ element_fault count size concept element
  unfolding element_fault
  no-element h l =
      goes_on Done _ _ _ (done-if _ (NoConcept 0) (ap not (lt-ltb concept count h))) refl (refused-if _ _ (ap not (le-ltb element size l)))

  pub asked-right : concept < count → element < size → Done ≡ element_fault count size concept element
  unfolding element_fault
  asked-right h l =
      goes_on Done _ _ _ (done-if _ (NoConcept 0) (ap not (lt-ltb concept count h))) refl (done-if _ _ (ap not (lt-ltb element size l)))

  module _ (h : element_fault count size concept element ≡ Done) where
    pub concept-known : concept < count
    unfolding element_fault
    concept-known = ltb-true _ _ (not-false _ (passed-if _ _ (passed_first _ _ h)))

    pub element-known : element < size
    unfolding element_fault
    element-known = ltb-true _ _ (not-false _ (passed-if _ _ (passed-second _ _ h)))
