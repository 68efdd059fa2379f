-- Renumbered tables are accepted, check by check.
use Prim.Native.Nat.{ℕ, zero, suc, ◌+◌, ◌*◌, ◌<◌}
use mathlib.Core.Path.{◌≡◌, refl, sym, ap, ap₂, ◌∙◌}
use mathlib.Core.List.{List}
use mathlib.Core.Bool.{false, not}
use native.Mathlib.Omega.{arith}
use lib.Dec.{eqb}
use lib.ListN.{length}
use borrow.Author.Tests.{lt-ltb, le-ltb}
use Rattle.subsumption.specs.Refusal.{or_else, Outcome, Done}
use Rattle.subsumption.specs.Tables.{Tables, or, both, node, count_of, pairs_of, left_of, right_of, Concept, tree, has_variable}
use Rattle.subsumption.specs.Atoms.{atoms}
use Rattle.subsumption.specs.Check.{unfit, limit_fault, malformed_row, malformed, malformed_fault, forward, forward_fault, no_concept, pairs_fault, inclusion_fault, sides_fault, roles_fault, atoms_fault, concept_fault, id_fault, use_fault, table_fault}
use Rattle.subsumption.specs.Inner.Atoms.{Known}
use Rattle.subsumption.proofs.Bools.{or-skip}
use Rattle.subsumption.proofs.Refusals.{both-done, done-if, passed_first, passed-second, passed-at, no-fault}
use Rattle.renumbering.specs.Order.{new_id, place_of, moved_ids}
use Rattle.renumbering.specs.Renumbering.{moved_field, moved_first, moved_second, moved_concepts, renumbered}
use Rattle.renumbering.specs.Laws.{Renumberable}
use Rattle.renumbering.proofs.OrderLaws.{place-of, moved_length, moved_at}
use Rattle.renumbering.proofs.TreeLaws.{moved-long, moved-count, moved-kind, moved-first, moved-second, rising-forward, arranged, well, moved-rising, tree-kept}
use Rattle.renumbering.proofs.AlikeLaws.{Readable, readable, PairsAlike, Alike, turned, atoms-fewer}

-- one check after another
both-pass : (a b : Outcome) → a ≡ Done → b ≡ Done → or_else a b ≡ Done
both-pass a b e f = sym (both-done a a b b refl e refl f)

-- ---- check 1: lengths are kept
unfit-same : (width limit : ℕ) (xs ys : List ℕ) → length xs ≡ length ys → unfit width limit xs ≡ unfit width limit ys
unfolding unfit
unfit-same width limit xs ys e = rw e refl

-- ---- check 2: ids are no part of it
malformed-same :
    (order : List ℕ) (v kind a b : ℕ)
    → malformed_row v kind (moved_field order (eqb kind 3) a) (moved_field order (or (eqb kind 2) (eqb kind 3)) b) ≡ malformed_row v kind a b
unfolding malformed_row moved_field or
malformed-same order v zero a b = refl
malformed-same order v (suc zero) a b = refl
malformed-same order v (suc (suc zero)) a b = refl
malformed-same order v (suc (suc (suc zero))) a b = refl
malformed-same order v (suc (suc (suc (suc zero)))) a b = refl
malformed-same order v (suc (suc (suc (suc (suc kind))))) a b = refl

-- ---- check 4
known-passes : (before count : ℕ) (pairs : List ℕ) → Known count pairs → pairs_fault before count pairs ≡ Done
unfolding pairs_fault no_concept
known-passes before count pairs known =
    sym
    (no-fault _ (λ m. no_concept count (left_of pairs m) (right_of pairs m)) 0 (pairs_of pairs)
    (λ m l.
    or-skip _ _ (ap not (lt-ltb _ _ (known.left-known m (omega arith)))) ∙ ap not (lt-ltb _ _ (known.right-known m (omega arith)))))

-- ---- pairs with their ids replaced
module _ (order pairs : List ℕ) where
  moved-many : pairs_of (moved_ids order pairs) ≡ pairs_of pairs
  moved-many = omega (arith, moved_length order pairs)

  module _ (m : ℕ) (l : m < pairs_of pairs) where
    moved-left : left_of (moved_ids order pairs) m ≡ new_id order (left_of pairs m)
    moved-left = moved_at order pairs (m * 2) (omega arith)

    moved-right : right_of (moved_ids order pairs) m ≡ new_id order (right_of pairs m)
    moved-right = moved_at order pairs (m * 2 + 1) (omega arith)

module _ (t : Tables) (order : List ℕ) (R : Renumberable t order) where
  pairs-alike : (pairs : List ℕ) → Known (count_of t.concepts) pairs
      → PairsAlike t.concepts pairs (moved_concepts order t.concepts) (moved_ids order pairs)
  pairs-alike pairs known =
      record {
        many = sym (moved-many order pairs);
        left = λ m l. sym (ap (tree (moved_concepts order t.concepts)) (moved-left order pairs m l) ∙ tree-kept t order R _ (known.left-known m l));
        right = λ m l. sym (ap (tree (moved_concepts order t.concepts)) (moved-right order pairs m l) ∙ tree-kept t order R _ (known.right-known m l));
      }

  pairs-known : (pairs : List ℕ) → Known (count_of t.concepts) pairs → Known (count_of (moved_concepts order t.concepts)) (moved_ids order pairs)
  pairs-known pairs known =
      let many = moved-many order pairs in
      let count = moved-count order t.concepts in
      record {
        left-known = λ m l.
            let u : m < pairs_of pairs = omega (arith, many) in
            omega (arith, count, moved-left order pairs m u, (arranged t order R).low _ (known.left-known m u));
        right-known = λ m l.
            let u : m < pairs_of pairs = omega (arith, many) in
            omega (arith, count, moved-right order pairs m u, (arranged t order R).low _ (known.right-known m u));
      }

  pub renumbered-readable : Readable (renumbered order t)
  renumbered-readable =
      let r = readable t (well t order R) in
      record {
        rising = moved-rising t order R;
        inclusions-known = pairs-known t.inclusions r.inclusions-known;
        questions-known = pairs-known t.questions r.questions-known;
      }

  -- The pairs are of the same concepts as before.
  pub renumbered-alike : Alike t (renumbered order t)
  renumbered-alike =
      let r = readable t (well t order R) in
      record {
        inclusions = pairs-alike t.inclusions r.inclusions-known;
        questions = pairs-alike t.questions r.questions-known;
        roles = refl;
        variables = refl;
      }

  -- ---- checks 1 to 3
  limits-pass : limit_fault (renumbered order t) ≡ Done
  unfolding limit_fault concept_fault table_fault
  limits-pass =
      rw (
        unfit-same 3 192 (moved_concepts order t.concepts) t.concepts (moved-long order t.concepts ∙ sym (well t order R).whole),
        unfit-same 2 96 (moved_ids order t.inclusions) t.inclusions (moved_length order t.inclusions),
        unfit-same 2 32 (moved_ids order t.questions) t.questions (moved_length order t.questions),
      ) (passed_first _ _ (passed_first _ _ R.accepted))

  row-passes : (k : ℕ) → k < count_of t.concepts → malformed (moved_concepts order t.concepts) t.variables k ≡ false
  unfolding malformed malformed_fault concept_fault table_fault moved_first moved_second
  row-passes k l =
      rw (moved-kind order t.concepts k l, moved-first order t.concepts k l, moved-second order t.concepts k l)
      (malformed-same order t.variables _ _ _
      ∙ passed-at _ (malformed t.concepts t.variables) 0 _ (passed_first _ _ (passed-second _ _ (passed_first _ _ R.accepted))) (place_of k order)
      (omega arith) (omega (arith, (place-of (count_of t.concepts) order (arranged t order R) k l).0)))

  concepts-pass : concept_fault (renumbered order t) ≡ Done
  unfolding concept_fault malformed_fault forward_fault
  concepts-pass =
      let count = moved-count order t.concepts in
      both-pass _ _ limits-pass
      (both-pass _ _ (sym (no-fault _ (malformed (moved_concepts order t.concepts) t.variables) 0 _ (λ k l. row-passes k (omega (arith, count)))))
      (sym (no-fault _ (λ k. forward k (node (moved_concepts order t.concepts) k)) 0 _ (λ k l. rising-forward k _ (moved-rising t order R k)))))

  ids-pass : id_fault (renumbered order t) ≡ Done
  unfolding id_fault
  ids-pass =
      both-pass _ _ (known-passes _ _ _ renumbered-readable.inclusions-known) (known-passes _ _ _ renumbered-readable.questions-known)

  -- ---- checks 5, 6, 16 and 7
  inclusions-pass : inclusion_fault (moved_concepts order t.concepts) (moved_ids order t.inclusions) ≡ Done
  unfolding inclusion_fault
  inclusions-pass =
      sym
      (no-fault _
      (λ m.
      or (has_variable (tree (moved_concepts order t.concepts) (left_of (moved_ids order t.inclusions) m)))
      (has_variable (tree (moved_concepts order t.concepts) (right_of (moved_ids order t.inclusions) m))))
      0 _
      (λ m l.
      let u : m < pairs_of t.inclusions = omega (arith, moved-many order t.inclusions) in
      let a = renumbered-alike.inclusions in
      or-skip _ _ (ap has_variable (sym (a.left m u)) ∙ (well t order R).left-ground m u) ∙ ap has_variable (sym (a.right m u)) ∙ (well t order R).right-ground m u))

  sides-pass : sides_fault (moved_concepts order t.concepts) (moved_ids order t.questions) ≡ Done
  unfolding sides_fault
  sides-pass =
      sym
      (no-fault _
      (λ m.
      both (has_variable (tree (moved_concepts order t.concepts) (left_of (moved_ids order t.questions) m)))
      (has_variable (tree (moved_concepts order t.concepts) (right_of (moved_ids order t.questions) m))))
      0 _
      (λ m l.
      let u : m < pairs_of t.questions = omega (arith, moved-many order t.questions) in
      let a = renumbered-alike.questions in
      ap₂ (λ (c d : Concept). both (has_variable c) (has_variable d)) (sym (a.left m u)) (sym (a.right m u)) ∙ (well t order R).one-sided m u))

  roles-pass : roles_fault t.roles ≡ Done
  unfolding table_fault use_fault
  roles-pass = passed_first _ _ (passed-second _ _ (passed-second _ _ (passed-second _ _ (passed-second _ _ R.accepted))))

  -- no more atoms than before: each has its concept among the old ones
  atoms-pass : atoms_fault (renumbered order t) ≡ Done
  unfolding atoms_fault
  atoms-pass =
      let l
      = atoms-fewer (renumbered order t) t renumbered-readable (readable t (well t order R)) (turned t (renumbered order t) renumbered-alike) in
      sym (done-if _ _ (le-ltb 64 (length (atoms (renumbered order t))) (omega (arith, l, (well t order R).few-atoms))))

-- Renumbered tables pass the checks 1 to 7.
pub renumbered-accepted : (t : Tables) (order : List ℕ) → Renumberable t order → table_fault (renumbered order t) ≡ Done
unfolding table_fault use_fault
renumbered-accepted t order R =
    both-pass _ _ (concepts-pass t order R)
    (both-pass _ _ (ids-pass t order R)
    (both-pass _ _ (inclusions-pass t order R) (both-pass _ _ (sides-pass t order R) (both-pass _ _ (roles-pass t order R) (atoms-pass t order R)))))
