-- Printing lists of ids, and a line for each variable.
use Rattle.subsumption.specs.Refusal.{Done}
use Prim.Native.Nat.{ℕ, ◌+◌, ◌<◌, ◌≤◌}
use mathlib.Core.Path.{◌≡◌, refl, sym, ap, ◌∙◌, subst}
use mathlib.Core.List.{List, [], ◌∷◌, ◌++◌}
use mathlib.Core.Bool.{Bool, true, false}
use native.Mathlib.Omega.{arith}
use native.Mathlib.Numerals.{add-one}
use lib.Dec.{ltb}
use lib.ListN.{length, get_or, drop, drop_of_length-le}
use lib.Seq.{drop-cons}
use borrow.Author.Tests.{lt-ltb}
use Rattle.subsumption.specs.Tables.{Tables}
use Rattle.subsumption.specs.Atoms.{atoms, chosen}
use Rattle.subsumption.specs.Check.{table_fault, assignment_fault}
use Rattle.matching.specs.Chosen.{choosing_fault, handed_back}
use Rattle.matching.proofs.ChosenLaws.Faults.{choices-length, choosing-done}
use Rattle.numerals.specs.Digits.{digits}
use Rattle.numerals.specs.Inner.Printing.{Wrote}
use Rattle.numerals.proofs.WriteLaws.{wrote-join, wrote-length}
use Rattle.numerals.proofs.PieceLaws.{Printed, piece-room, printed-more, printed-done}
use Rattle.hermitcasket.specs.Printing.{id_text, ids_text, fill_text, fills_text}

-- ---- an id
module _ (before : List ℕ) (at id : ℕ) (later : Bool) (room : at + length (id_text later id) ≤ length before) where
  pub comma-room : later ≡ true → at + 1 ≤ length before
  unfolding id_text
  comma-room h = omega (arith, ap (λ (z : Bool). length (id_text z id)) h)

  pub later-room : later ≡ true → (byte a : ℕ) (after : List ℕ) → Wrote before at (byte ∷ []) a after → a + length (digits id) ≤ length after
  unfolding id_text
  later-room h byte a after w = omega (arith, ap (λ (z : Bool). length (id_text z id)) h, w.place, wrote-length before at (byte ∷ []) a after (comma-room h) w)

  pub wrote-later :
      later ≡ true → (a : ℕ) (between : List ℕ) → Wrote before at (44 ∷ []) a between → (end : ℕ) (after : List ℕ) → Wrote between a (digits id) end after
      → Wrote before at (id_text later id) end after
  unfolding id_text
  wrote-later h a between v end after w = rw h (wrote-join before at (44 ∷ []) (digits id) a between end after (comma-room h) v w)

  pub first-room : later ≡ false → at + length (digits id) ≤ length before
  unfolding id_text
  first-room h = omega (arith, ap (λ (z : Bool). length (id_text z id)) h)

  pub wrote-first : later ≡ false → (end : ℕ) (after : List ℕ) → Wrote before at (digits id) end after → Wrote before at (id_text later id) end after
  unfolding id_text
  wrote-first h end after w = rw h w

-- ---- a list of ids
abbrev pub ids_left : List ℕ → ℕ → List ℕ
ids_left ids i = ids_text (ltb 0 i) (drop i ids)

cut : (xs : List ℕ) (i : ℕ) → i < length xs → drop i xs ≡ get_or xs i 0 ∷ drop (i + 1) xs
cut xs i h = rw (add-one, drop-cons xs i 0)

pub ids_next : (ids : List ℕ) (i : ℕ) → i < length ids → ids_left ids i ≡ id_text (ltb 0 i) (get_or ids i 0) ++ ids_left ids (i + 1)
unfolding ids_text
ids_next ids i h = rw (cut ids i h, lt-ltb 0 (i + 1) (omega arith)) refl

pub ids-last : (ids : List ℕ) (i : ℕ) → length ids ≤ i → ids_left ids i ≡ []
unfolding ids_text
ids-last ids i h = rw (drop_of_length-le ids h) refl

pub ids-done :
    (ids before : List ℕ) (at : ℕ) (out : List ℕ) (end i : ℕ) → Printed (ids_left ids) before at out end i → length ids ≤ i
    → Wrote before at (ids_text false ids) end out
ids-done ids before at out end i s h = printed-done (ids_left ids) before at out end i s (ids-last ids i h)

-- ---- a line for each variable
abbrev pub fills_left : Tables → List ℕ → ℕ → List ℕ
fills_left t assignment k = fills_text (atoms t) (drop k assignment)

module _ (t : Tables) (assignment : List ℕ) (accepted : assignment_fault t assignment ≡ Done) where
  one_each : length assignment ≡ t.variables
  unfolding assignment_fault
  one_each = choices-length (length (atoms t)) t.variables assignment accepted

  fills-next : (k : ℕ) → k < t.variables → fills_left t assignment k ≡ fill_text (chosen t assignment k) ++ fills_left t assignment (k + 1)
  unfolding fills_text chosen
  fills-next k h = rw (cut assignment k (omega (arith, one_each))) refl

  module _
      (before : List ℕ) (at : ℕ) (out : List ℕ) (end k : ℕ) (s : Printed (fills_left t assignment) before at out end k) (known : k < t.variables)
      (room : at + length (fills_text (atoms t) assignment) ≤ length before) where
    pub fill-room : end + length (fill_text (chosen t assignment k)) ≤ length out
    fill-room = piece-room (fills_left t assignment) before at out end k s room (fill_text (chosen t assignment k)) (fills-next k known)

    pub fills-more : (end' : ℕ) (out' : List ℕ) → Wrote out end (fill_text (chosen t assignment k)) end' out' → Printed (fills_left t assignment) before at out' end' (k + 1)
    fills-more = printed-more (fills_left t assignment) before at out end k s room (fill_text (chosen t assignment k)) (fills-next k known)

  pub fills-done :
      (before : List ℕ) (at : ℕ) (out : List ℕ) (end k : ℕ) → Printed (fills_left t assignment) before at out end k → t.variables ≤ k
      → Wrote before at (fills_text (atoms t) assignment) end out
  unfolding fills_text
  fills-done before at out end k s h =
      let l : length assignment ≤ k = omega (arith, one_each) in
      printed-done (fills_left t assignment) before at out end k s (rw (drop_of_length-le assignment l) refl)

  -- what the listing hands back
  module _
      (k : ℕ) (buffer ids : List ℕ) (sound : table_fault t ≡ Done) (known : k < t.variables)
      (big : 64 ≤ length buffer) (back : ids ≡ handed_back (choosing_fault t assignment k (length buffer)) (chosen t assignment k) buffer) where
    ids-chosen : ids ≡ chosen t assignment k
    unfolding handed_back
    ids-chosen = back ∙ rw (sym (choosing-done t assignment k (length buffer) sound accepted known big)) refl

    pub chosen-room : (at size : ℕ) → at + length (fill_text (chosen t assignment k)) ≤ size → at + length (fill_text ids) ≤ size
    chosen-room at size h = rw ids-chosen h

    pub wrote-chosen : (before : List ℕ) (at end : ℕ) (after : List ℕ) → Wrote before at (fill_text ids) end after → Wrote before at (fill_text (chosen t assignment k)) end after
    wrote-chosen before at end after w = subst (λ (z : List ℕ). Wrote before at (fill_text z) end after) ids-chosen w
