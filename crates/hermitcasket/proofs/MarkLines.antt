-- Printing the lines of an interpretation that is shown, mark by mark.
use Prim.Native.Nat.{ℕ, suc, ◌+◌, ◌-◌, ◌/◌, ◌<◌, ◌≤◌}
use mathlib.Core.Path.{◌≡◌, refl, sym, ap, ◌∙◌, subst}
use mathlib.Core.List.{List, [], ◌∷◌, ◌++◌}
use mathlib.Core.Bool.{Bool, true, false}
use native.Mathlib.Omega.{arith}
use native.Mathlib.Numerals.{add-one}
use lib.ListN.{length}
use Rattle.subsumption.specs.Atoms.{keep}
use Rattle.subsumption.specs.Inner.Atoms.{mark_at, marked_ids}
use Rattle.countermodel.specs.Countermodel.{name_rows, link_rows}
use Rattle.numerals.specs.Digits.{digits}
use Rattle.numerals.specs.Printing.{pair_text}
use Rattle.numerals.specs.Inner.Printing.{Wrote}
use Rattle.numerals.specs.Lines.{lines_text}
use Rattle.numerals.proofs.WriteLaws.{room-1, room-2, room-3, wrote-three}
use Rattle.numerals.proofs.PieceLaws.{Printed, printed-skip, piece-room, printed-more, printed-done}
use Rattle.hermitcasket.specs.Printing.{is_key, link_key, link_text, line_of, rows_text}
use Rattle.hermitcasket.specs.Inner.Print.{mark_line, mark_lines}

-- ---- the line of a link
module _ (before : List ℕ) (at i s q : ℕ) (room : at + length (link_text i s q) ≤ length before) where
  pub link-room-1 : at + length link_key ≤ length before
  unfolding link_text
  link-room-1 = room-1 before at link_key (digits i) (pair_text (44 ∷ []) s q) room

  module _ (x : ℕ) (one : List ℕ) (wrote-1 : Wrote before at link_key x one) where
    pub link-room-2 : x + length (digits i) ≤ length one
    unfolding link_text
    link-room-2 = room-2 before at link_key (digits i) (pair_text (44 ∷ []) s q) room x one wrote-1

    module _ (y : ℕ) (two : List ℕ) (wrote-2 : Wrote one x (digits i) y two) where
      pub link-room-3 : y + length (pair_text (44 ∷ []) s q) ≤ length two
      unfolding link_text
      link-room-3 = room-3 before at link_key (digits i) (pair_text (44 ∷ []) s q) room x one wrote-1 y two wrote-2

      pub wrote-link : (end : ℕ) (after : List ℕ) → Wrote two y (pair_text (44 ∷ []) s q) end after → Wrote before at (link_text i s q) end after
      unfolding link_text
      wrote-link end after wrote-3 = wrote-three before at link_key (digits i) (pair_text (44 ∷ []) s q) room x one wrote-1 y two wrote-2 end after wrote-3

-- ---- the line of a mark
module _ (before : List ℕ) (at i s q : ℕ) (link : Bool) (room : at + length (mark_line link i s q) ≤ length before) where
  pub mark-link-room : link ≡ true → at + length (link_text i s q) ≤ length before
  unfolding mark_line
  mark-link-room h = omega (arith, ap (λ (z : Bool). length (mark_line z i s q)) h)

  pub wrote-mark-link : link ≡ true → (end : ℕ) (after : List ℕ) → Wrote before at (link_text i s q) end after → Wrote before at (mark_line link i s q) end after
  unfolding mark_line
  wrote-mark-link h end after w = rw h w

  pub mark-name-room : link ≡ false → at + length (pair_text is_key i q) ≤ length before
  unfolding mark_line
  mark-name-room h = omega (arith, ap (λ (z : Bool). length (mark_line z i s q)) h)

  pub wrote-mark-name : link ≡ false → (end : ℕ) (after : List ℕ) → Wrote before at (pair_text is_key i q) end after → Wrote before at (mark_line link i s q) end after
  unfolding mark_line
  wrote-mark-name h end after w = rw h w

-- ---- a line for each mark
abbrev pub marks_left : Bool → ℕ → ℕ → List Bool → ℕ → ℕ → List ℕ
marks_left link i s marks count q = mark_lines link i s (keep (mark_at marks) q (count - q))

module _ (link : Bool) (i s : ℕ) (marks : List Bool) (count : ℕ) where
  module _ (q : ℕ) (h : q < count) where
    split : count - q ≡ suc (count - (q + 1))
    split = omega arith

    set_next : mark_at marks q ≡ true → marks_left link i s marks count q ≡ mark_line link i s q ++ marks_left link i s marks count (q + 1)
    unfolding keep mark_lines
    set_next e = rw (split, e, add-one) refl

    unset-next : mark_at marks q ≡ false → marks_left link i s marks count q ≡ marks_left link i s marks count (q + 1)
    unfolding keep
    unset-next e = rw (split, e, add-one) refl

  all_left : marks_left link i s marks count 0 ≡ mark_lines link i s (marked_ids marks count)
  all_left = let z : count - 0 ≡ count = omega arith in rw z refl

  module _ (before out : List ℕ) (end q : ℕ) (p : Printed (marks_left link i s marks count) before 0 out end q) where
    module _ (h : q < count) (room : 0 + length (mark_lines link i s (marked_ids marks count)) ≤ length before) where
      all_room : 0 + length (marks_left link i s marks count 0) ≤ length before
      all_room = rw all_left room

      pub marks-room : mark_at marks q ≡ true → end + length (mark_line link i s q) ≤ length out
      marks-room e = piece-room (marks_left link i s marks count) before 0 out end q p all_room (mark_line link i s q) (set_next q h e)

      pub marks-set :
          mark_at marks q ≡ true → (end' : ℕ) (out' : List ℕ) → Wrote out end (mark_line link i s q) end' out'
          → Printed (marks_left link i s marks count) before 0 out' end' (q + 1)
      marks-set e = printed-more (marks_left link i s marks count) before 0 out end q p all_room (mark_line link i s q) (set_next q h e)

    pub marks-unset : q < count → mark_at marks q ≡ false → Printed (marks_left link i s marks count) before 0 out end (q + 1)
    marks-unset h e = printed-skip (marks_left link i s marks count) before 0 out end q p (unset-next q h e)

    pub marks-done : count ≤ q → Wrote before 0 (mark_lines link i s (marked_ids marks count)) end out
    unfolding keep mark_lines
    marks-done h =
        let z : count - q ≡ 0 = omega arith in
        subst (λ (y : List ℕ). Wrote before 0 y end out) all_left (printed-done (marks_left link i s marks count) before 0 out end q p (rw z refl))

-- ---- these are the lines of the rows
pub rows-one : (k x y z : ℕ) (rows : List ℕ) → rows_text (k ∷ x ∷ y ∷ z ∷ rows) ≡ line_of k x y z ++ rows_text rows
unfolding rows_text lines_text
rows-one k x y z rows =
    let e : length (k ∷ x ∷ y ∷ z ∷ rows) / 4 ≡ suc (length rows / 4) = omega arith in
    rw e refl

pub name-lines : (i s : ℕ) (names : List ℕ) → mark_lines false i s names ≡ rows_text (name_rows i names)
unfolding mark_lines mark_line name_rows line_of rows_text lines_text
name-lines i s [] = refl
name-lines i s (q ∷ names) = ap (λ (z : List ℕ). pair_text is_key i q ++ z) (name-lines i s names) ∙ sym (rows-one 0 i q 0 (name_rows i names))

pub link-lines : (i s : ℕ) (links : List ℕ) → mark_lines true i s links ≡ rows_text (link_rows i s links)
unfolding mark_lines mark_line link_rows line_of rows_text lines_text
link-lines i s [] = refl
link-lines i s (q ∷ links) = ap (λ (z : List ℕ). link_text i s q ++ z) (link-lines i s links) ∙ sym (rows-one 1 i s q (link_rows i s links))
