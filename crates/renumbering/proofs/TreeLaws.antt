-- Renumbered rows: where each number of them stands, and that every id keeps its concept.
use Prim.Native.Nat.{ℕ, zero, suc, ◌+◌, ◌*◌, ◌<◌, ◌≤◌}
use mathlib.Core.Path.{◌≡◌, refl, sym, ap, ap₂, ◌∙◌, subst}
use mathlib.Core.List.{List}
use mathlib.Core.Bool.{false}
use mathlib.Core.Logic.{⊎_elim}
use native.Mathlib.Omega.{arith}
use lib.Dec.{eqb}
use lib.ListN.{length, get_or, get_or-append, get_or-eq_default}
use lib.Seq.{get_or-append-add}
use borrow.Author.Tests.{ltb-true, lt-ltb, not-false}
use Rattle.subsumption.specs.Tables.{Tables, or, Node, top_at, name_at, exists_at, and_at, var_at, decode, node, count_of, Concept, exists, and, shape, tree}
use Rattle.subsumption.specs.Check.{forward}
use Rattle.subsumption.specs.Inner.Tables.{Rising}
use Rattle.subsumption.proofs.Bools.{or-false, or-skip, le-or-lt}
use Rattle.subsumption.proofs.Refusals.{passed-at}
use Rattle.subsumption.proofs.WellFormed.{WellFormed}
use Rattle.subsumption.proofs.Accepted.{well_formed}
use Rattle.subsumption.proofs.Depth.{by-smaller}
use Rattle.subsumption.proofs.Trees.{tree-eq}
use Rattle.renumbering.specs.Order.{new_id, place_of}
use Rattle.renumbering.specs.Renumbering.{moved_field, moved_first, moved_second, moved_row, moved_node, rising_fault, moved_rows, moved_concepts}
use Rattle.renumbering.specs.Inner.Order.{Arranges}
use Rattle.renumbering.specs.Laws.{Renumberable}
use Rattle.renumbering.proofs.OrderLaws.{order-arranges, place-of, of-place}

-- ---- the numbers of the new rows, for any list
module _ (order concepts : List ℕ) where
  pub rows-length : (from count : ℕ) → length (moved_rows order concepts from count) ≡ count * 3
  unfolding moved_rows moved_row
  rows-length from zero = refl
  rows-length from (suc count) = omega (arith, rows-length (suc from) count)

  rows_at :
      (from count m d : ℕ) → m < count → d < 3
      → get_or (moved_rows order concepts from count) (m * 3 + d) 0 ≡ get_or (moved_row order concepts (place_of (from + m) order)) d 0
  unfolding moved_rows moved_row
  rows_at from zero m d l h = absurd (omega arith)
  rows_at from (suc count) zero d l h =
      let e : 0 * 3 + d ≡ d = omega arith in
      let f : from + 0 ≡ from = omega arith in
      ap (λ (z : ℕ). get_or (moved_rows order concepts from (suc count)) z 0) e
      ∙ get_or-append (moved_row order concepts (place_of from order)) (moved_rows order concepts (suc from) count) 0 d h
      ∙ ap (λ (z : ℕ). get_or (moved_row order concepts (place_of z order)) d 0) (sym f)
  rows_at from (suc count) (suc m) d l h =
      let e : suc m * 3 + d ≡ 3 + (m * 3 + d) = omega arith in
      let f : suc from + m ≡ from + suc m = omega arith in
      ap (λ (z : ℕ). get_or (moved_rows order concepts from (suc count)) z 0) e
      ∙ get_or-append-add (moved_row order concepts (place_of from order)) (moved_rows order concepts (suc from) count) (m * 3 + d) 0
      ∙ rows_at (suc from) count m d (omega arith) h
      ∙ ap (λ (z : ℕ). get_or (moved_row order concepts (place_of z order)) d 0) f

  pub moved-long : length (moved_concepts order concepts) ≡ count_of concepts * 3
  unfolding moved_concepts
  moved-long = rows-length 0 (count_of concepts)

  pub moved-count : count_of (moved_concepts order concepts) ≡ count_of concepts
  moved-count = omega (arith, moved-long)

  moved-part :
      (k d : ℕ) → k < count_of concepts → d < 3
      → get_or (moved_concepts order concepts) (k * 3 + d) 0 ≡ get_or (moved_row order concepts (place_of k order)) d 0
  unfolding moved_concepts
  moved-part k d l h =
      let e : 0 + k ≡ k = omega arith in
      rows_at 0 (count_of concepts) k d l h ∙ ap (λ (z : ℕ). get_or (moved_row order concepts (place_of z order)) d 0) e

  pub moved-kind : (k : ℕ) → k < count_of concepts → get_or (moved_concepts order concepts) (k * 3) 0 ≡ get_or concepts (place_of k order * 3) 0
  unfolding moved_row
  moved-kind k l = ap (λ (z : ℕ). get_or (moved_concepts order concepts) z 0) (omega arith) ∙ moved-part k 0 l (omega arith)

  pub moved-first : (k : ℕ) → k < count_of concepts → get_or (moved_concepts order concepts) (k * 3 + 1) 0 ≡ moved_first order concepts (place_of k order)
  unfolding moved_row
  moved-first k l = moved-part k 1 l (omega arith)

  pub moved-second : (k : ℕ) → k < count_of concepts → get_or (moved_concepts order concepts) (k * 3 + 2) 0 ≡ moved_second order concepts (place_of k order)
  unfolding moved_row
  moved-second k l = moved-part k 2 l (omega arith)

  pub moved-past : (k : ℕ) → count_of concepts ≤ k → node (moved_concepts order concepts) k ≡ top_at
  unfolding node decode
  moved-past k l = rw (get_or-eq_default (moved_concepts order concepts) 0 {n = k * 3} (omega (arith, moved-long)), decode) refl

  pub node-placed : (k : ℕ) → k < count_of concepts → node (moved_concepts order concepts) k ≡ moved_node order concepts (place_of k order)
  unfolding node moved_node
  node-placed k l = rw (moved-kind k l, moved-first k l, moved-second k l) refl

-- ---- the new node is the old one with its inner ids replaced
unfoldable pub with_inner : (ℕ → ℕ) → Node → Node
with_inner new top_at = top_at
with_inner new (name_at n) = name_at n
with_inner new (exists_at r j) = exists_at r (new j)
with_inner new (and_at j k) = and_at (new j) (new k)
with_inner new (var_at k) = var_at k

decode-with-inner :
    (order : List ℕ) (kind a b : ℕ)
    → decode kind (moved_field order (eqb kind 3) a) (moved_field order (or (eqb kind 2) (eqb kind 3)) b) ≡ with_inner (new_id order) (decode kind a b)
unfolding decode moved_field or with_inner
decode-with-inner order zero a b = refl
decode-with-inner order (suc zero) a b = refl
decode-with-inner order (suc (suc zero)) a b = refl
decode-with-inner order (suc (suc (suc zero))) a b = refl
decode-with-inner order (suc (suc (suc (suc zero)))) a b = refl
decode-with-inner order (suc (suc (suc (suc (suc kind))))) a b = refl

pub node-with-inner : (order concepts : List ℕ) (i : ℕ) → moved_node order concepts i ≡ with_inner (new_id order) (node concepts i)
unfolding moved_node moved_first moved_second node
node-with-inner order concepts i = decode-with-inner order _ _ _

shape-with-inner :
    (f g : ℕ → Concept) (new : ℕ → ℕ) (i : ℕ) (m : Node) → Rising i m → ((j : ℕ) → j < i → f (new j) ≡ g j) → shape f (with_inner new m) ≡ shape g m
unfolding shape with_inner
shape-with-inner f g new i top_at up h = refl
shape-with-inner f g new i (name_at n) up h = refl
shape-with-inner f g new i (exists_at r j) up h = ap (exists r) (h j up)
shape-with-inner f g new i (and_at j k) up h = ap₂ and (h j up.0) (h k up.1)
shape-with-inner f g new i (var_at k) up h = refl

-- ---- inner ids are smaller
pub forward-rising : (i : ℕ) (m : Node) → forward i m ≡ false → Rising i m
unfolding forward
forward-rising i top_at h = tt
forward-rising i (name_at n) h = tt
forward-rising i (exists_at r j) h = ltb-true j i (not-false _ h)
forward-rising i (and_at j k) h = (ltb-true j i (not-false _ (or-false _ _ h).0), ltb-true k i (not-false _ (or-false _ _ h).1))
forward-rising i (var_at k) h = tt

pub rising-forward : (i : ℕ) (m : Node) → Rising i m → forward i m ≡ false
unfolding forward
rising-forward i top_at h = refl
rising-forward i (name_at n) h = refl
rising-forward i (exists_at r j) h = rw (lt-ltb j i h) refl
rising-forward i (and_at j k) h = rw (lt-ltb j i h.0, lt-ltb k i h.1) (or-skip false false refl)
rising-forward i (var_at k) h = refl

module _ (t : Tables) (order : List ℕ) (R : Renumberable t order) where
  pub arranged : Arranges (count_of t.concepts) order
  arranged = order-arranges (count_of t.concepts) order R.listed

  pub well : WellFormed t
  well = well_formed t R.accepted

  pub moved_length : length (moved_concepts order t.concepts) ≡ length t.concepts
  moved_length = moved-long order t.concepts ∙ sym well.whole

  -- the row of an id stands at its new id
  pub node-moved : (i : ℕ) → i < count_of t.concepts → node (moved_concepts order t.concepts) (new_id order i) ≡ moved_node order t.concepts i
  node-moved i l =
      node-placed order t.concepts (new_id order i) (arranged.low i l)
      ∙ ap (moved_node order t.concepts) (of-place (count_of t.concepts) order arranged i l)

  pub rising-moved : (i : ℕ) → i < count_of t.concepts → Rising (new_id order i) (moved_node order t.concepts i)
  unfolding rising_fault
  rising-moved i l =
      forward-rising _ _ (passed-at _ (λ i. forward (new_id order i) (moved_node order t.concepts i)) 0 _ R.rising i (omega arith) (omega arith))

  pub moved-rising : (k : ℕ) → Rising k (node (moved_concepts order t.concepts) k)
  moved-rising k =
      ⊎_elim (λ l. subst (Rising k) (sym (moved-past order t.concepts k l)) tt)
      (λ l.
      let (u, v) = place-of (count_of t.concepts) order arranged k l in
      subst (Rising k) (sym (node-placed order t.concepts k l))
      (subst (λ (z : ℕ). Rising z (moved_node order t.concepts (place_of k order))) v (rising-moved (place_of k order) u)))
      (le-or-lt (count_of t.concepts) k)

module _ (t : Tables) (order : List ℕ) (R : Renumberable t order) where
  abbrev Kept : ℕ → Type 0
  Kept i = i < count_of t.concepts → tree (moved_concepts order t.concepts) (new_id order i) ≡ tree t.concepts i

  -- An id's concept is that of its new id.
  pub tree-kept : (i : ℕ) → i < count_of t.concepts → tree (moved_concepts order t.concepts) (new_id order i) ≡ tree t.concepts i
  tree-kept =
      by-smaller Kept
      (λ i smaller l.
      tree-eq (moved_concepts order t.concepts) (moved-rising t order R) (new_id order i)
      ∙ ap (shape (tree (moved_concepts order t.concepts))) (node-moved t order R i l ∙ node-with-inner order t.concepts i)
      ∙ shape-with-inner (tree (moved_concepts order t.concepts)) (tree t.concepts) (new_id order) i (node t.concepts i) ((well t order R).rising i)
      (λ j h. smaller j h (omega arith)) ∙ sym (tree-eq t.concepts (well t order R).rising i))

  -- A new id's concept is that of its place.
  pub tree_placed :
      (k : ℕ) → k < count_of t.concepts → tree (moved_concepts order t.concepts) k ≡ tree t.concepts (place_of k order)
  tree_placed k l =
      let (u, v) = place-of (count_of t.concepts) order (arranged t order R) k l in
      ap (tree (moved_concepts order t.concepts)) (sym v) ∙ tree-kept (place_of k order) u
