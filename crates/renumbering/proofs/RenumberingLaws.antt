-- The list that leads back restores the tables, and one renumbering after another is the composed one (02, A.12).
use Rattle.subsumption.specs.Refusal.{Done}
use Prim.Native.Nat.{ℕ, ◌+◌, ◌*◌, ◌/◌, ◌%◌, ◌<◌}
use mathlib.Core.Path.{◌≡◌, refl, sym, ap, ap₂, ◌∙◌, subst}
use mathlib.Core.List.{List}
use mathlib.Core.Bool.{Bool, true, false}
use mathlib.Core.Logic.{⊎_elim}
use native.Mathlib.Omega.{arith}
use lib.Dec.{eqb}
use lib.ListN.{length, get_or}
use lib.Seq.{ext_get_or}
use borrow.Author.Tests.{eqb-true}
use Rattle.subsumption.specs.Tables.{Tables, tables, or, node, count_of}
use Rattle.subsumption.specs.Check.{forward}
use Rattle.subsumption.proofs.Bools.{or_cases, eq-or-ne}
use Rattle.subsumption.proofs.Refusals.{no-fault}
use Rattle.subsumption.proofs.Nodes.{node-exists, node-and}
use Rattle.subsumption.proofs.Trees.{inner-exists, inner-and}
use Rattle.renumbering.specs.Order.{new_id, order_fault, place_of, inverse, composed}
use Rattle.renumbering.specs.Renumbering.{moved_field, moved_first, moved_second, moved_node, rising_fault, moved_concepts, renumbered}
use Rattle.renumbering.specs.Inner.Order.{Arranges}
use Rattle.renumbering.specs.Laws.{Renumberable, Restored, Composes}
use Rattle.renumbering.proofs.OrderLaws.{arranges-order, place-of, of-place, inverse-new, inverse-arranges, place-inverse, back-there, composed-new, composed-arranges, place-composed}
use Rattle.renumbering.proofs.PairLaws.{inclusions-below, questions-below, ids-back, ids-twice}
use Rattle.renumbering.proofs.AcceptedLaws.{renumbered-accepted}
use Rattle.renumbering.proofs.TreeLaws.{moved-long, moved-count, moved-kind, moved-first, moved-second, arranged, well, rising-forward, rising-moved}

-- ---- the numbers of a row, renumbered and then renumbered again
field_back : (order back : List ℕ) (inner : Bool) (x : ℕ) → (inner ≡ true → new_id back (new_id order x) ≡ x) → moved_field back inner (moved_field order inner x) ≡ x
unfolding moved_field
field_back order back true x h = h refl
field_back order back false x h = refl

field-twice :
    (order next whole : List ℕ) (inner : Bool) (x : ℕ) → (inner ≡ true → new_id whole x ≡ new_id next (new_id order x))
    → moved_field next inner (moved_field order inner x) ≡ moved_field whole inner x
unfolding moved_field
field-twice order next whole true x h = sym (h refl)
field-twice order next whole false x h = refl

module _ (t : Tables) (order : List ℕ) (R : Renumberable t order) where
  abbrev cs : List ℕ
  cs = t.concepts

  abbrev new : List ℕ
  new = moved_concepts order cs

  A : Arranges (count_of cs) order
  A = arranged t order R

  placed : (i : ℕ) → i < count_of cs → place_of (new_id order i) order ≡ i
  placed = of-place (count_of cs) order A

  kind-again : (i : ℕ) → i < count_of cs → get_or new (new_id order i * 3) 0 ≡ get_or cs (i * 3) 0
  kind-again i l = moved-kind order cs (new_id order i) (A.low i l) ∙ ap (λ (z : ℕ). get_or cs (z * 3) 0) (placed i l)

  first-again :
      (next : List ℕ) (i : ℕ) → i < count_of cs
      → moved_first next new (new_id order i)
      ≡ moved_field next (eqb (get_or cs (i * 3) 0) 3) (moved_field order (eqb (get_or cs (i * 3) 0) 3) (get_or cs (i * 3 + 1) 0))
  unfolding moved_first
  first-again next i l =
      ap₂ (λ (kind a : ℕ). moved_field next (eqb kind 3) a) (kind-again i l)
      (moved-first order cs (new_id order i) (A.low i l) ∙ ap (moved_first order cs) (placed i l))

  second-again :
      (next : List ℕ) (i : ℕ) → i < count_of cs
      → moved_second next new (new_id order i)
      ≡ moved_field next (or (eqb (get_or cs (i * 3) 0) 2) (eqb (get_or cs (i * 3) 0) 3))
      (moved_field order (or (eqb (get_or cs (i * 3) 0) 2) (eqb (get_or cs (i * 3) 0) 3)) (get_or cs (i * 3 + 2) 0))
  unfolding moved_second
  second-again next i l =
      ap₂ (λ (kind b : ℕ). moved_field next (or (eqb kind 2) (eqb kind 3)) b) (kind-again i l)
      (moved-second order cs (new_id order i) (A.low i l) ∙ ap (moved_second order cs) (placed i l))

  -- inner ids are ids
  first-known : (i : ℕ) → i < count_of cs → eqb (get_or cs (i * 3) 0) 3 ≡ true → get_or cs (i * 3 + 1) 0 < count_of cs
  first-known i l e = omega (arith, (inner-and cs (well t order R).rising i _ _ (node-and cs i (eqb-true _ _ e))).0)

  second-known : (i : ℕ) → i < count_of cs → or (eqb (get_or cs (i * 3) 0) 2) (eqb (get_or cs (i * 3) 0) 3) ≡ true → get_or cs (i * 3 + 2) 0 < count_of cs
  second-known i l e =
      ⊎_elim (λ q. omega (arith, inner-exists cs (well t order R).rising i _ _ (node-exists cs i (eqb-true _ _ q))))
      (λ q. omega (arith, (inner-and cs (well t order R).rising i _ _ (node-and cs i (eqb-true _ _ q))).1)) (or_cases _ _ e)

-- Lists of as many rows are equal where their rows are.
rows_same :
    (n : ℕ) (xs ys : List ℕ) → length xs ≡ n * 3 → length ys ≡ n * 3 → ((i : ℕ) → i < n → get_or xs (i * 3) 0 ≡ get_or ys (i * 3) 0)
    → ((i : ℕ) → i < n → get_or xs (i * 3 + 1) 0 ≡ get_or ys (i * 3 + 1) 0) → ((i : ℕ) → i < n → get_or xs (i * 3 + 2) 0 ≡ get_or ys (i * 3 + 2) 0) → xs ≡ ys
rows_same n xs ys e f kind first second = ext_get_or 0 xs ys (e ∙ sym f) at
  where
    same : (p q : ℕ) → q ≡ p → get_or xs q 0 ≡ get_or ys q 0 → get_or xs p 0 ≡ get_or ys p 0
    same p q r h = subst (λ (z : ℕ). get_or xs z 0 ≡ get_or ys z 0) r h

    at : (p : ℕ) → p < length xs → get_or xs p 0 ≡ get_or ys p 0
    at p l =
        ⊎_elim (λ (r : p % 3 ≡ 0). same p (p / 3 * 3) (omega arith) (kind (p / 3) (omega arith)))
        (λ r.
        ⊎_elim (λ (s : p % 3 ≡ 1). same p (p / 3 * 3 + 1) (omega arith) (first (p / 3) (omega arith)))
        (λ s. same p (p / 3 * 3 + 2) (omega arith) (second (p / 3) (omega arith))) (eq-or-ne (p % 3) 1)) (eq-or-ne (p % 3) 0)

same_tables :
    (t : Tables) (concepts inclusions questions : List ℕ) → concepts ≡ t.concepts → inclusions ≡ t.inclusions → questions ≡ t.questions
    → tables concepts inclusions questions t.roles t.variables ≡ t
same_tables t concepts inclusions questions e f g =
    ap (λ (z : List ℕ). tables z inclusions questions t.roles t.variables) e
    ∙ ap (λ (z : List ℕ). tables t.concepts z questions t.roles t.variables) f
    ∙ ap (λ (z : List ℕ). tables t.concepts t.inclusions z t.roles t.variables) g

-- ---- back
module _ (t : Tables) (order : List ℕ) (R : Renumberable t order) where
  first_back : (i : ℕ) → i < count_of t.concepts → moved_first (inverse order) (moved_concepts order t.concepts) (new_id order i) ≡ get_or t.concepts (i * 3 + 1) 0
  first_back i l =
      first-again t order R (inverse order) i l
      ∙ field_back order (inverse order) _ _ (λ e. back-there (count_of t.concepts) order (arranged t order R) _ (first-known t order R i l e))

  second_back : (i : ℕ) → i < count_of t.concepts → moved_second (inverse order) (moved_concepts order t.concepts) (new_id order i) ≡ get_or t.concepts (i * 3 + 2) 0
  second_back i l =
      second-again t order R (inverse order) i l
      ∙ field_back order (inverse order) _ _ (λ e. back-there (count_of t.concepts) order (arranged t order R) _ (second-known t order R i l e))

  node-back : (i : ℕ) → i < count_of t.concepts → moved_node (inverse order) (moved_concepts order t.concepts) (new_id order i) ≡ node t.concepts i
  unfolding moved_node node
  node-back i l = rw (kind-again t order R i l, first_back i l, second_back i l) refl

  inverse-place : (i : ℕ) → i < count_of t.concepts → place_of i (inverse order) ≡ new_id order i
  inverse-place = place-inverse (count_of t.concepts) order (arranged t order R)

  inverse-listed : order_fault (count_of (moved_concepts order t.concepts)) (inverse order) ≡ Done
  inverse-listed =
      subst (λ (n : ℕ). order_fault n (inverse order) ≡ Done) (sym (moved-count order t.concepts))
      (arranges-order _ _ (inverse-arranges (count_of t.concepts) order (arranged t order R)))

  inverse-rising : rising_fault (moved_concepts order t.concepts) (inverse order) ≡ Done
  unfolding rising_fault
  inverse-rising =
      sym
      (no-fault _ (λ k. forward (new_id (inverse order) k) (moved_node (inverse order) (moved_concepts order t.concepts) k)) 0 _
      (λ k l.
      let h : k < count_of t.concepts = omega (arith, moved-count order t.concepts) in
      let (u, v) = place-of (count_of t.concepts) order (arranged t order R) k h in
      ap₂ forward (inverse-new (count_of t.concepts) order (arranged t order R) k h)
      (ap (moved_node (inverse order) (moved_concepts order t.concepts)) (sym v) ∙ node-back (place_of k order) u)
      ∙ rising-forward _ _ ((well t order R).rising (place_of k order))))

  concepts-back : moved_concepts (inverse order) (moved_concepts order t.concepts) ≡ t.concepts
  concepts-back =
      rows_same (count_of t.concepts) _ _
      (moved-long (inverse order) (moved_concepts order t.concepts) ∙ ap (λ (n : ℕ). n * 3) (moved-count order t.concepts))
      (well t order R).whole
      (λ i l.
      moved-kind (inverse order) (moved_concepts order t.concepts) i (omega (arith, moved-count order t.concepts))
      ∙ ap (λ (z : ℕ). get_or (moved_concepts order t.concepts) (z * 3) 0) (inverse-place i l) ∙ kind-again t order R i l)
      (λ i l.
      moved-first (inverse order) (moved_concepts order t.concepts) i (omega (arith, moved-count order t.concepts))
      ∙ ap (moved_first (inverse order) (moved_concepts order t.concepts)) (inverse-place i l) ∙ first_back i l)
      (λ i l.
      moved-second (inverse order) (moved_concepts order t.concepts) i (omega (arith, moved-count order t.concepts))
      ∙ ap (moved_second (inverse order) (moved_concepts order t.concepts)) (inverse-place i l) ∙ second_back i l)

-- The inverse list restores the tables, number by number.
pub renumbered-back : (t : Tables) (order : List ℕ) → Renumberable t order → Restored t order
renumbered-back t order R =
    record {
      able = record { accepted = renumbered-accepted t order R; listed = inverse-listed t order R; rising = inverse-rising t order R };
      restored =
          same_tables t _ _ _ (concepts-back t order R)
          (ids-back (count_of t.concepts) order t.inclusions (arranged t order R) (inclusions-below t (well t order R)))
          (ids-back (count_of t.concepts) order t.questions (arranged t order R) (questions-below t (well t order R)));
    }

-- ---- one after another
module _ (t : Tables) (order next : List ℕ) (R : Renumberable t order) (N : Renumberable (renumbered order t) next) where
  next-arranged : Arranges (count_of t.concepts) next
  next-arranged = subst (λ (n : ℕ). Arranges n next) (moved-count order t.concepts) (arranged (renumbered order t) next N)

  twice-new : (i : ℕ) → i < count_of t.concepts → new_id (composed order next) i ≡ new_id next (new_id order i)
  twice-new = composed-new (count_of t.concepts) order next (arranged t order R) next-arranged

  first-twice : (i : ℕ) → i < count_of t.concepts → moved_first next (moved_concepts order t.concepts) (new_id order i) ≡ moved_first (composed order next) t.concepts i
  unfolding moved_first
  first-twice i l = first-again t order R next i l ∙ field-twice order next (composed order next) _ _ (λ e. twice-new _ (first-known t order R i l e))

  second-twice : (i : ℕ) → i < count_of t.concepts → moved_second next (moved_concepts order t.concepts) (new_id order i) ≡ moved_second (composed order next) t.concepts i
  unfolding moved_second
  second-twice i l = second-again t order R next i l ∙ field-twice order next (composed order next) _ _ (λ e. twice-new _ (second-known t order R i l e))

  node-twice : (i : ℕ) → i < count_of t.concepts → moved_node next (moved_concepts order t.concepts) (new_id order i) ≡ moved_node (composed order next) t.concepts i
  unfolding moved_node
  node-twice i l = rw (kind-again t order R i l, first-twice i l, second-twice i l) refl

  twice-rising : rising_fault t.concepts (composed order next) ≡ Done
  unfolding rising_fault
  twice-rising =
      sym
      (no-fault _ (λ i. forward (new_id (composed order next) i) (moved_node (composed order next) t.concepts i)) 0 _
      (λ i l.
      let h : i < count_of t.concepts = omega arith in
      ap₂ forward (twice-new i h) (sym (node-twice i h))
      ∙ rising-forward _ _ (rising-moved (renumbered order t) next N (new_id order i) (omega (arith, (arranged t order R).low i h, moved-count order t.concepts)))))

  module _ (k : ℕ) (l : k < count_of t.concepts) where
    place-next : place_of k next < count_of t.concepts
    place-next = (place-of (count_of t.concepts) next next-arranged k l).0

    -- the old id, two lists back
    place-whole : (place_of (place_of k next) order < count_of t.concepts) × (new_id order (place_of (place_of k next) order) ≡ place_of k next)
    place-whole = place-of (count_of t.concepts) order (arranged t order R) (place_of k next) place-next

    place_twice : place_of (place_of k next) order ≡ place_of k (composed order next)
    place_twice = sym (place-composed (count_of t.concepts) order next (arranged t order R) next-arranged k l)

    in-new : k < count_of (moved_concepts order t.concepts)
    in-new = omega (arith, moved-count order t.concepts)

    -- what each row has at its old id, it has at the new one
    along : (f g : ℕ → ℕ) → ((i : ℕ) → i < count_of t.concepts → f (new_id order i) ≡ g i) → f (place_of k next) ≡ g (place_of k (composed order next))
    along f g h = ap f (sym place-whole.1) ∙ h (place_of (place_of k next) order) place-whole.0 ∙ ap g place_twice

  concepts-twice : moved_concepts next (moved_concepts order t.concepts) ≡ moved_concepts (composed order next) t.concepts
  concepts-twice =
      rows_same (count_of t.concepts) _ _
      (moved-long next (moved_concepts order t.concepts) ∙ ap (λ (n : ℕ). n * 3) (moved-count order t.concepts))
      (moved-long (composed order next) t.concepts)
      (λ k l.
      moved-kind next (moved_concepts order t.concepts) k (in-new k l)
      ∙ along k l (λ z. get_or (moved_concepts order t.concepts) (z * 3) 0) (λ z. get_or t.concepts (z * 3) 0) (kind-again t order R)
      ∙ sym (moved-kind (composed order next) t.concepts k l))
      (λ k l.
      moved-first next (moved_concepts order t.concepts) k (in-new k l)
      ∙ along k l (moved_first next (moved_concepts order t.concepts)) (moved_first (composed order next) t.concepts) first-twice
      ∙ sym (moved-first (composed order next) t.concepts k l))
      (λ k l.
      moved-second next (moved_concepts order t.concepts) k (in-new k l)
      ∙ along k l (moved_second next (moved_concepts order t.concepts)) (moved_second (composed order next) t.concepts) second-twice
      ∙ sym (moved-second (composed order next) t.concepts k l))

-- One renumbering after another is the composed one.
pub renumbered-twice : (t : Tables) (order next : List ℕ) → Renumberable t order → Renumberable (renumbered order t) next → Composes t order next
renumbered-twice t order next R N =
    record {
      able =
          record {
            accepted = R.accepted;
            listed = arranges-order _ _ (composed-arranges (count_of t.concepts) order next (arranged t order R) (next-arranged t order next R N));
            rising = twice-rising t order next R N;
          };
      same =
          same_tables (renumbered (composed order next) t) _ _ _ (concepts-twice t order next R N)
          (ids-twice (count_of t.concepts) order t.inclusions (arranged t order R) (inclusions-below t (well t order R)) next (next-arranged t order next R N))
          (ids-twice (count_of t.concepts) order t.questions (arranged t order R) (questions-below t (well t order R)) next (next-arranged t order next R N));
    }
