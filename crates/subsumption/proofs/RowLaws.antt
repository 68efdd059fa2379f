-- Writing rows: a row byte by byte, row by row; and what the rows then are.
use Prim.Native.Nat.{ℕ, ◌+◌, ◌*◌, ◌/◌, ◌%◌, ◌^◌, ◌<◌, ◌≤◌}
use mathlib.Core.Path.{◌≡◌, refl, ap, sym, ◌∙◌, subst}
use mathlib.Core.List.{List}
use mathlib.Core.Bool.{Bool, true, false}
use native.Mathlib.Omega.{arith}
use lib.Dec.{eqb}
use lib.ListN.{length, get_or, set, length-set}
use lib.Seq.{get_or-set_same, get_or-set_other}
use borrow.Author.Tests.{eqb-true, eqb-false}
use Rattle.subsumption.specs.Tables.{Tables, count_of}
use Rattle.subsumption.specs.Atoms.{bit}
use Rattle.subsumption.specs.Inner.Columns.{has}
use Rattle.subsumption.specs.Table.{row_start, marked, TableOf}
use Rattle.subsumption.specs.Inner.Closure.{ColumnsOf}
use Rattle.subsumption.specs.Inner.Rows.{shown, banded, BandOf, RowWritten, Written}
use Rattle.subsumption.proofs.Bits.{bit-shr, bit-mod}
use Rattle.subsumption.proofs.Blocks.{shows-below, shows-over}

pub start_is : (i start : ℕ) → start ≡ row_start i → start ≡ i * 24
unfolding row_start
start_is i start e = e

-- the bytes of a row
module _ (band : List ℕ) (i : ℕ) (before : List ℕ) where
  pub record RowTo (at : ℕ) (after : List ℕ) : Type 0 where
    pub within : at ≤ 24
    pub size : length after ≡ length before
    pub bits : (j : ℕ) → j < at * 8 → marked after i j ≡ banded band i j
    pub under : (p : ℕ) → p < row_start i → get_or after p 0 ≡ get_or before p 0
    pub over : (p : ℕ) → row_start i + at ≤ p → get_or after p 0 ≡ get_or before p 0

  pub row_first : RowTo 0 before
  row_first = record { within = omega arith; size = refl; bits = λ j h. absurd (omega arith); under = λ p h. refl; over = λ p h. refl }

  pub row_more :
      (at : ℕ) (mid : List ℕ) (start : ℕ) → RowTo at mid → at < 24 → i * 24 + 24 ≤ length before → start ≡ row_start i
      → RowTo (at + 1) (set mid (start + at) (get_or band at 0 / 2 ^ (i % 8 * 8) % 2 ^ 8))
  unfolding row_start marked
  row_more at mid start M h fits e =
      record {
        within = omega arith;
        size = length-set mid (start + at) byte ∙ M.size;
        bits = λ j l. go j l (eqb (j / 8) at) refl;
        under = λ p l. get_or-set_other mid (start + at) p byte 0 (λ u. omega arith) ∙ M.under p l;
        over = λ p l. get_or-set_other mid (start + at) p byte 0 (λ u. omega arith) ∙ M.over p (omega arith);
      }
    where
      byte : ℕ
      byte = get_or band at 0 / 2 ^ (i % 8 * 8) % 2 ^ 8

      go : (j : ℕ) → j < (at + 1) * 8 → (t : Bool) → eqb (j / 8) at ≡ t → bit (get_or (set mid (start + at) byte) (i * 24 + j / 8) 0) (j % 8) ≡ banded band i j
      go j l true p =
          let s : j / 8 ≡ at = eqb-true (j / 8) at p in
          let q : i * 24 + j / 8 ≡ start + at = omega arith in
          ap (λ (v : ℕ). bit (get_or (set mid (start + at) byte) v 0) (j % 8)) q
          ∙ ap (λ (v : ℕ). bit v (j % 8)) (get_or-set_same mid (start + at) byte 0 (omega (arith, M.size)))
          ∙ bit-mod (get_or band at 0 / 2 ^ (i % 8 * 8)) 8 (j % 8) (omega arith) ∙ bit-shr (get_or band at 0) (i % 8 * 8) (j % 8)
          ∙ ap (λ (v : ℕ). bit (get_or band v 0) (i % 8 * 8 + j % 8)) (sym s)
      go j l false p =
          let ne : j / 8 ≡ at → ⊥ = eqb-false (j / 8) at p in
          ap (λ (v : ℕ). bit v (j % 8)) (get_or-set_other mid (start + at) (i * 24 + j / 8) byte 0 (λ u. ne (omega arith)))
          ∙ M.bits j (omega arith)

  pub row_done : (at : ℕ) (after : List ℕ) → RowTo at after → 24 ≤ at → RowWritten band i before after
  row_done at after M h =
      record { size = M.size; bits = λ j l. M.bits j (omega arith); under = M.under; over = λ p l. M.over p (omega (arith, M.within)) }

-- the rows
module _ (columns : List ℕ) (count : ℕ) (before : List ℕ) where
  pub record RowsTo (n : ℕ) (after : List ℕ) : Type 0 where
    pub within : n ≤ count
    pub size : length after ≡ length before
    pub bits : (i j : ℕ) → i < n → j < 192 → marked after i j ≡ shown columns count i j
    pub rest : (p : ℕ) → row_start n ≤ p → get_or after p 0 ≡ get_or before p 0

  pub rows-first : RowsTo 0 before
  rows-first = record { within = omega arith; size = refl; bits = λ i j h. absurd (omega arith); rest = λ p h. refl }

  pub rows_more :
      (n : ℕ) (band mid after : List ℕ) → RowsTo n mid → n < count → BandOf columns count (n / 8) band → RowWritten band n mid after
      → RowsTo (n + 1) after
  unfolding row_start marked
  rows_more n band mid after M h B W =
      record {
        within = omega arith;
        size = W.size ∙ M.size;
        bits = λ i j l m. go i j l m (eqb i n) refl;
        rest = λ p l. W.over p (omega arith) ∙ M.rest p (omega arith);
      }
    where
      whole_row : n / 8 * 8 + n % 8 ≡ n
      whole_row = omega arith

      go : (i j : ℕ) → i < n + 1 → j < 192 → (t : Bool) → eqb i n ≡ t → marked after i j ≡ shown columns count i j
      go i j l m true p =
          subst (λ (x : ℕ). marked after x j ≡ shown columns count x j) (sym (eqb-true i n p))
          (W.bits j m ∙ B.bits (n % 8) j (omega arith) m ∙ ap (λ (x : ℕ). shown columns count x j) whole_row)
      go i j l m false p =
          let q : i < n = omega (arith, eqb-false i n p) in
          ap (λ (v : ℕ). bit v (j % 8)) (W.under (i * 24 + j / 8) (omega arith)) ∙ M.bits i j q m

  pub rows-done : (n : ℕ) (after : List ℕ) → RowsTo n after → count ≤ n → Written columns count before after
  rows-done n after M h =
      record {
        size = M.size;
        bits = λ i j l. M.bits i j (omega arith);
        rest = λ p l. M.rest p (subst (λ (x : ℕ). row_start x ≤ p) (whole M.within) l);
      }
    where
      whole : n ≤ count → count ≡ n
      whole l = omega arith

-- exact columns, written out, are the table
module _ (t : Tables) (assignment columns before after : List ℕ) (few : count_of t.concepts ≤ 192)
    (C : ColumnsOf t assignment columns) (W : Written columns (count_of t.concepts) before after) where
  inside : (i j : ℕ) → i < count_of t.concepts → j < count_of t.concepts → marked after i j ≡ has columns i j
  inside i j h l = W.bits i j h (omega arith) ∙ shows-below columns (count_of t.concepts) i j l

  outside : (i j : ℕ) → i < count_of t.concepts → count_of t.concepts ≤ j → j < 192 → marked after i j ≡ false
  outside i j h l m = W.bits i j h m ∙ shows-over columns (count_of t.concepts) i j l

  pub table_of : TableOf t assignment before after
  table_of =
      record {
        size = W.size;
        sound = λ i j h l e. C.sound i j h l (sym (inside i j h l) ∙ e);
        complete = λ i j h l s. inside i j h l ∙ C.complete i j h l s;
        zero = outside;
        rest = W.rest;
      }
