-- Pairs of ids, and each id replaced by its new one.
use Prim.Native.Nat.{ℕ, ◌+◌, ◌*◌, ◌/◌, ◌%◌, ◌<◌}
use mathlib.Core.Path.{◌≡◌, sym, ap, ◌∙◌, subst}
use mathlib.Core.List.{List}
use mathlib.Core.Logic.{⊎_elim}
use native.Mathlib.Omega.{arith}
use lib.ListN.{length, get_or}
use lib.Seq.{ext_get_or}
use Rattle.subsumption.specs.Tables.{Tables, count_of, pairs_of, left_of, right_of}
use Rattle.subsumption.proofs.Bools.{eq-or-ne}
use Rattle.subsumption.proofs.WellFormed.{WellFormed}
use Rattle.renumbering.specs.Order.{new_id, inverse, moved_ids, composed}
use Rattle.renumbering.specs.Inner.Order.{Arranges}
use Rattle.renumbering.specs.Inner.Moving.{IdsBelow}
use Rattle.renumbering.proofs.OrderLaws.{moved_length, moved_at, back-there, composed-new}

-- where each left and each right is an id, each number is
pairs_below :
    (count : ℕ) (pairs : List ℕ) → length pairs ≡ pairs_of pairs * 2 → ((m : ℕ) → m < pairs_of pairs → left_of pairs m < count)
    → ((m : ℕ) → m < pairs_of pairs → right_of pairs m < count) → IdsBelow count pairs
pairs_below count pairs even left right p l =
    ⊎_elim
    (λ (e : p % 2 ≡ 0).
    let q : p / 2 * 2 ≡ p = omega arith in
    subst (λ (z : ℕ). get_or pairs z 0 < count) q (left (p / 2) (omega arith)))
    (λ e.
    let q : p / 2 * 2 + 1 ≡ p = omega arith in
    subst (λ (z : ℕ). get_or pairs z 0 < count) q (right (p / 2) (omega arith)))
    (eq-or-ne (p % 2) 0)

module _ (t : Tables) (wf : WellFormed t) where
  pub inclusions-below : IdsBelow (count_of t.concepts) t.inclusions
  inclusions-below = pairs_below (count_of t.concepts) t.inclusions wf.even wf.left-known wf.right-known

  pub questions-below : IdsBelow (count_of t.concepts) t.questions
  questions-below = pairs_below (count_of t.concepts) t.questions wf.even-questions wf.question-left wf.question-right

module _ (order pairs : List ℕ) where
  pub moved-pairs : pairs_of (moved_ids order pairs) ≡ pairs_of pairs
  moved-pairs = ap (λ (n : ℕ). n / 2) (moved_length order pairs)

  pub moved-left : (m : ℕ) → m < pairs_of pairs → left_of (moved_ids order pairs) m ≡ new_id order (left_of pairs m)
  moved-left m l = moved_at order pairs (m * 2) (omega arith)

  pub moved-right : (m : ℕ) → m < pairs_of pairs → right_of (moved_ids order pairs) m ≡ new_id order (right_of pairs m)
  moved-right m l = moved_at order pairs (m * 2 + 1) (omega arith)

-- ---- replaced twice
module _ (count : ℕ) (order ids : List ℕ) (A : Arranges count order) (below : IdsBelow count ids) where
  pub ids-back : moved_ids (inverse order) (moved_ids order ids) ≡ ids
  ids-back =
      ext_get_or 0 _ _ (moved_length (inverse order) (moved_ids order ids) ∙ moved_length order ids)
      (λ p l.
      let h : p < length ids = omega (arith, moved_length (inverse order) (moved_ids order ids), moved_length order ids) in
      moved_at (inverse order) (moved_ids order ids) p (omega (arith, moved_length order ids)) ∙ ap (new_id (inverse order)) (moved_at order ids p h)
      ∙ back-there count order A (get_or ids p 0) (below p h))

  pub ids-twice : (next : List ℕ) → Arranges count next → moved_ids next (moved_ids order ids) ≡ moved_ids (composed order next) ids
  ids-twice next B =
      ext_get_or 0 _ _ (moved_length next (moved_ids order ids) ∙ moved_length order ids ∙ sym (moved_length (composed order next) ids))
      (λ p l.
      let h : p < length ids = omega (arith, moved_length next (moved_ids order ids), moved_length order ids) in
      moved_at next (moved_ids order ids) p (omega (arith, moved_length order ids)) ∙ ap (new_id next) (moved_at order ids p h)
      ∙ sym (moved_at (composed order next) ids p h ∙ composed-new count order next A B (get_or ids p 0) (below p h)))
