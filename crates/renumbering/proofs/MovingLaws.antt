-- Rows and ids put in front of a buffer.
use Prim.Native.Nat.{ℕ, zero, suc, ◌+◌, ◌*◌, ◌<◌, ◌≤◌}
use mathlib.Core.Path.{◌≡◌, refl, sym, ap, ◌∙◌, subst}
use mathlib.Core.List.{List, [], ◌∷◌, ◌++◌, append_assoc}
use mathlib.Core.Bool.{Bool, true, false, ◌||◌}
use mathlib.Core.Logic.{⊎_elim}
use native.Mathlib.Omega.{arith}
use native.Mathlib.Numerals.{add-one}
use native.Mathlib.Nat.{zero-add}
use lib.Dec.{eqb}
use lib.ListN.{length, get_or, take, set, length-append}
use lib.Seq.{take-suc, length-take-le, length_front}
use borrow.Author.Tests.{eqb-true}
use Rattle.subsumption.specs.declared.tables.Row.{Row}
use Rattle.subsumption.specs.Tables.{or, count_of}
use Rattle.subsumption.specs.Inner.Tables.{row_of}
use Rattle.subsumption.specs.Inner.Atoms.{in_front}
use Rattle.subsumption.proofs.Bools.{or_cases}
use Rattle.subsumption.proofs.Lists.{front-more}
use Rattle.subsumption.proofs.Nodes.{node-exists, node-and}
use Rattle.renumbering.specs.Order.{new_id, place_of, moved_ids}
use Rattle.renumbering.specs.Renumbering.{moved_field, moved_first, moved_second, moved_row, moved_rows, moved_concepts}
use Rattle.renumbering.specs.Inner.Moving.{Known, Inward, moved_parts}
use Rattle.renumbering.proofs.OrderLaws.{moved_length}
use Rattle.renumbering.proofs.TreeLaws.{rows-length}

-- ---- a field
pub field-moved : (order : List ℕ) (inner : Bool) (x : ℕ) → inner ≡ true → get_or order x 0 ≡ moved_field order inner x
unfolding moved_field
field-moved order inner x e = rw e refl

pub field-kept : (order : List ℕ) (inner : Bool) (x : ℕ) → inner ≡ false → x ≡ moved_field order inner x
unfolding moved_field
field-kept order inner x e = rw e refl

bars : (a b : Bool) → (a || b) ≡ or a b
unfolding or
bars true b = refl
bars false b = refl

-- inner ids of a row are ids
module _ (concepts order : List ℕ) (inward : Inward concepts) (long : length order ≡ count_of concepts) (i : ℕ) (low : i < count_of concepts) (row : Row)
    (e : row ≡ row_of concepts i) where
  pub first-known : Known order (eqb row.kind 3) row.a
  first-known = subst (λ (z : Row). Known order (eqb z.kind 3) z.a) (sym e) (λ h. omega (arith, (inward.and i _ _ low (node-and concepts i (eqb-true _ 3 h))).0))

  pub second-known : Known order (eqb row.kind 2 || eqb row.kind 3) row.b
  second-known =
      subst (λ (z : Row). Known order (eqb z.kind 2 || eqb z.kind 3) z.b) (sym e)
      (λ h.
      ⊎_elim
      (λ (u : eqb (get_or concepts (i * 3) 0) 2 ≡ true). omega (arith, inward.some i _ _ low (node-exists concepts i (eqb-true _ 2 u))))
      (λ (u : eqb (get_or concepts (i * 3) 0) 3 ≡ true). omega (arith, (inward.and i _ _ low (node-and concepts i (eqb-true _ 3 u))).1))
      (or_cases _ _ (sym (bars _ _) ∙ h)))

pub row_moved :
    (concepts order : List ℕ) (i : ℕ) (row : Row) (first second : ℕ) → row ≡ row_of concepts i → first ≡ moved_field order (eqb row.kind 3) row.a
    → second ≡ moved_field order (eqb row.kind 2 || eqb row.kind 3) row.b
    → record { kind = row.kind; a = first; b = second } ≡ moved_parts order concepts i
unfolding moved_first moved_second
row_moved concepts order i row first second e f g =
    rw (f, g, e) (rw bars refl)

-- ---- one number more in front
front-next : (xs before : List ℕ) (n v : ℕ) → n ≡ length xs → n < length before → set (in_front xs before) n v ≡ in_front (xs ++ (v ∷ [])) before
front-next xs before n v e h = rw e (front-more xs before v (omega (arith, e)))

front_long : (xs before : List ℕ) → length xs ≤ length before → length (in_front xs before) ≡ length before
front_long xs before h = length_front before xs (length xs) (sym (length-take-le (length xs) before h))

front-three :
    (xs before : List ℕ) (n a b c : ℕ) → n ≡ length xs → n + 2 < length before
    → set (set (set (in_front xs before) n a) (n + 1) b) (n + 2) c ≡ in_front (xs ++ (a ∷ b ∷ c ∷ [])) before
front-three xs before n a b c e h =
    ap (λ (z : List ℕ). set (set z (n + 1) b) (n + 2) c) (front-next xs before n a e (omega arith))
    ∙ ap (λ (z : List ℕ). set z (n + 2) c) (front-next (xs ++ (a ∷ [])) before (n + 1) b (omega (arith, e, length-append xs (a ∷ []))) (omega arith))
    ∙ front-next ((xs ++ (a ∷ [])) ++ (b ∷ [])) before (n + 2) c (omega (arith, e, length-append xs (a ∷ []), length-append (xs ++ (a ∷ [])) (b ∷ []))) (omega arith)
    ∙ ap (λ (z : List ℕ). in_front z before) joined
  where
    joined : ((xs ++ (a ∷ [])) ++ (b ∷ [])) ++ (c ∷ []) ≡ xs ++ (a ∷ b ∷ c ∷ [])
    joined = simp append_assoc

-- ---- ids
module _ (order : List ℕ) where
  ids-join : (ids more : List ℕ) → moved_ids order (ids ++ more) ≡ moved_ids order ids ++ moved_ids order more
  unfolding moved_ids
  ids-join [] more = refl
  ids-join (i ∷ ids) more = ap (λ (z : List ℕ). new_id order i ∷ z) (ids-join ids more)

  ids-one : (i : ℕ) → moved_ids order (i ∷ []) ≡ new_id order i ∷ []
  unfolding moved_ids
  ids-one i = refl

  module _ (ids before : List ℕ) where
    -- the first p ids are written
    pub record IdsTo (out : List ℕ) (p : ℕ) : Type 0 where
      pub within : p ≤ length ids
      pub buffer : out ≡ in_front (moved_ids order (take p ids)) before

    pub ids-none : IdsTo before 0
    unfolding moved_ids
    ids-none = record { within = omega arith; buffer = refl }

    pub ids_more :
        (out : List ℕ) (p v : ℕ) → IdsTo out p → p < length ids → length ids ≤ length before → v ≡ moved_field order true (get_or ids p 0)
        → IdsTo (set out p v) (p + 1)
    unfolding moved_field
    ids_more out p v s h l e =
        record {
          within = omega arith;
          buffer =
              rw s.buffer
              (front-next (moved_ids order (take p ids)) before p v (sym (moved_length order (take p ids) ∙ length-take-le p ids (omega arith))) (omega arith)
              ∙ ap (λ (z : List ℕ). in_front z before) (sym snoc));
        }
      where
        snoc : moved_ids order (take (p + 1) ids) ≡ moved_ids order (take p ids) ++ (v ∷ [])
        snoc =
            ap (moved_ids order) (ap (λ (z : ℕ). take z ids) (add-one p) ∙ take-suc ids p 0 h) ∙ ids-join _ _
            ∙ ap (λ (z : List ℕ). moved_ids order (take p ids) ++ z) (ids-one (get_or ids p 0) ∙ ap (λ (n : ℕ). n ∷ []) (sym e))

-- ---- rows
module _ (order concepts : List ℕ) where
  rows_snoc : (from count : ℕ) → moved_rows order concepts from (suc count) ≡ moved_rows order concepts from count ++ moved_row order concepts (place_of (from + count) order)
  unfolding moved_rows moved_row
  rows_snoc from zero = let e : from + 0 ≡ from = omega arith in rw e refl
  rows_snoc from (suc count) =
      let e : from + suc count ≡ suc from + count = omega arith in
      rw e (ap (λ (z : List ℕ). moved_row order concepts (place_of from order) ++ z) (rows_snoc (suc from) count))

  rows_more : (k : ℕ) → moved_rows order concepts 0 (k + 1) ≡ moved_rows order concepts 0 k ++ moved_row order concepts (place_of k order)
  rows_more k = rw add-one (rows_snoc 0 k ∙ ap (λ (z : ℕ). moved_rows order concepts 0 k ++ moved_row order concepts (place_of z order)) (zero-add k))

  module _ (before : List ℕ) where
    -- the rows of the first k new ids are written
    pub record RowsTo (out : List ℕ) (k : ℕ) : Type 0 where
      pub within : k ≤ count_of concepts
      pub buffer : out ≡ in_front (moved_rows order concepts 0 k) before

    pub rows_none : RowsTo before 0
    unfolding moved_rows
    rows_none = record { within = omega arith; buffer = refl }

    module _ (room : length concepts ≤ length before) where
      pub rows_step :
          (out : List ℕ) (k i : ℕ) (row : Row) → RowsTo out k → k < count_of concepts → i ≡ place_of k order → row ≡ moved_parts order concepts i
          → RowsTo (set (set (set out (k * 3) row.kind) (k * 3 + 1) row.a) (k * 3 + 2) row.b) (k + 1)
      unfolding moved_row
      rows_step out k i row s h q e =
          record {
            within = omega arith;
            buffer =
                rw (s.buffer, e, q)
                (front-three (moved_rows order concepts 0 k) before (k * 3) _ _ _ (sym (rows-length order concepts 0 k)) (omega arith)
                ∙ ap (λ (z : List ℕ). in_front z before) (sym (rows_more k)));
          }

    pub rows-done : (out : List ℕ) (k : ℕ) → RowsTo out k → count_of concepts ≤ k → out ≡ in_front (moved_concepts order concepts) before
    unfolding moved_concepts
    rows-done out k s h = let e : k ≡ count_of concepts = omega (arith, s.within) in s.buffer ∙ ap (λ (n : ℕ). in_front (moved_rows order concepts 0 n) before) e
