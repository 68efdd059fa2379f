-- The operation: its checks in their order, what they leave of the tables and the buffers, and what it has written.
use Rattle.std.specs.Prelude.{Err, Ok}
use Prim.Native.Nat.{ℕ, ◌<◌, ◌≤◌}
use mathlib.Core.Path.{◌≡◌, refl, sym, ◌∙◌, subst}
use mathlib.Core.List.{List}
use native.Mathlib.Omega.{arith}
use lib.ListN.{length}
use Rattle.subsumption.specs.declared.refusal.Refusal.{Refusal}
use Rattle.subsumption.specs.declared.refusal.Refusal.TheVariants.{BufferTooShort}
use Rattle.subsumption.specs.Tables.{Tables, count_of}
use Rattle.subsumption.specs.Refusal.{reply_of, Outcome, Done}
use Rattle.subsumption.specs.Check.{table_fault, buffer_fault}
use Rattle.subsumption.specs.Inner.Atoms.{in_front}
use Rattle.subsumption.proofs.Accepted.{well_formed}
use Rattle.subsumption.proofs.Refusals.{stops, goes_on, refused-lt, done-le, is-done, passed_first, passed-second, buffer-fits}
use Rattle.subsumption.proofs.Replies.{by-refusal, by_value, same-reply}
use Rattle.subsumption.proofs.Trees.{inner-exists, inner-and}
use Rattle.renumbering.specs.Order.{order_fault, moved_ids}
use Rattle.renumbering.specs.Renumbering.{rising_fault, moved_concepts}
use Rattle.renumbering.specs.Renumber.{renumbering_fault, put_in, Renumbers}
use Rattle.renumbering.specs.Inner.Order.{Arranges}
use Rattle.renumbering.specs.Inner.Moving.{Inward, IdsBelow}
use Rattle.renumbering.proofs.OrderLaws.{order-arranges}
use Rattle.renumbering.proofs.PairLaws.{inclusions-below, questions-below}

-- ---- what passed checks tell
module _ (t : Tables) (accepted : table_fault t ≡ Done) where
  pub accepted-few : count_of t.concepts ≤ 192
  accepted-few = (well_formed t accepted).few

  pub accepted-inward : Inward t.concepts
  accepted-inward =
      record {
        some = λ i r j l e. inner-exists t.concepts (well_formed t accepted).rising i r j e;
        and = λ i j k l e. inner-and t.concepts (well_formed t accepted).rising i j k e;
      }

  module _ (order : List ℕ) (listed : order_fault (count_of t.concepts) order ≡ Done) where
    pub listed-long : length order ≡ count_of t.concepts
    listed-long = (order-arranges _ order listed).long

-- the tables' checks reply what they answer
pub same_outcome : (x fault : Outcome) → reply_of x ≡ reply_of fault → x ≡ fault
same_outcome (Ok tt) fault e = sym (by_value fault 0 0 e).0
same_outcome (Err r) fault e = by-refusal fault 0 r e

-- ---- the checks in their order
module _ (t : Tables) (order : List ℕ) (concepts inclusions questions : ℕ) where
  module _ (x : Outcome) (e : reply_of x ≡ reply_of (table_fault t)) where
    pub tables-refuse : (r : Refusal) → x ≡ Err r → Err r ≡ renumbering_fault t order concepts inclusions questions
    unfolding renumbering_fault
    tables-refuse r h = stops x _ _ r (same_outcome x (table_fault t) e) h

    pub tables-pass : x ≡ Done → table_fault t ≡ Done
    tables-pass h = is-done x _ (same_outcome x (table_fault t) e) h

  module _ (accepted : table_fault t ≡ Done) (y : Outcome) (e : y ≡ order_fault (count_of t.concepts) order) where
    pub order-refuses : (r : Refusal) → y ≡ Err r → Err r ≡ renumbering_fault t order concepts inclusions questions
    unfolding renumbering_fault
    order-refuses r h = goes_on Done _ _ _ (sym accepted) refl (stops y _ _ r e h)

  module _ (accepted : table_fault t ≡ Done) (listed : order_fault (count_of t.concepts) order ≡ Done) (z : Outcome) (e : z ≡ rising_fault t.concepts order) where
    pub rising-refuses : (r : Refusal) → z ≡ Err r → Err r ≡ renumbering_fault t order concepts inclusions questions
    unfolding renumbering_fault
    rising-refuses r h = goes_on Done _ _ _ (sym accepted) refl (goes_on Done _ _ _ (sym listed) refl (stops z _ _ r e h))

    module _ (h : z ≡ Done) where
      pub concepts-short : concepts < length t.concepts → Err (BufferTooShort (length t.concepts)) ≡ renumbering_fault t order concepts inclusions questions
      unfolding renumbering_fault buffer_fault
      concepts-short l =
          goes_on Done _ _ _ (sym accepted) refl
          (goes_on Done _ _ _ (sym listed) refl (goes_on z _ _ _ e h (stops _ _ _ _ (refused-lt concepts (length t.concepts) _ l) refl)))

      module _ (l : length t.concepts ≤ concepts) where
        pub inclusions-short :
            inclusions < length t.inclusions → Err (BufferTooShort (length t.inclusions)) ≡ renumbering_fault t order concepts inclusions questions
        unfolding renumbering_fault buffer_fault
        inclusions-short m =
            goes_on Done _ _ _ (sym accepted) refl
            (goes_on Done _ _ _ (sym listed) refl
            (goes_on z _ _ _ e h
            (goes_on Done _ _ _ (done-le concepts (length t.concepts) _ l) refl (stops _ _ _ _ (refused-lt inclusions (length t.inclusions) _ m) refl))))

        module _ (m : length t.inclusions ≤ inclusions) where
          pub questions-judged : (w : Outcome) → w ≡ buffer_fault (length t.questions) questions → w ≡ renumbering_fault t order concepts inclusions questions
          unfolding renumbering_fault buffer_fault
          questions-judged w f =
              goes_on Done _ _ _ (sym accepted) refl
              (goes_on Done _ _ _ (sym listed) refl
              (goes_on z _ _ _ e h
              (goes_on Done _ _ _ (done-le concepts (length t.concepts) _ l) refl (goes_on Done _ _ _ (done-le inclusions (length t.inclusions) _ m) refl f))))

          pub questions-short :
              questions < length t.questions → Err (BufferTooShort (length t.questions)) ≡ renumbering_fault t order concepts inclusions questions
          unfolding buffer_fault
          questions-short n = questions-judged _ (refused-lt questions (length t.questions) _ n)

          pub all_pass : length t.questions ≤ questions → Done ≡ renumbering_fault t order concepts inclusions questions
          unfolding buffer_fault
          all_pass n = questions-judged _ (done-le questions (length t.questions) _ n)

  -- ---- all of them passed
  module _ (x : Outcome) (e : x ≡ renumbering_fault t order concepts inclusions questions) (h : x ≡ Done) where
    passed : renumbering_fault t order concepts inclusions questions ≡ Done
    passed = is-done x _ e h

    pub passed-tables : table_fault t ≡ Done
    unfolding renumbering_fault
    passed-tables = passed_first _ _ passed

    pub passed-order : Arranges (count_of t.concepts) order
    unfolding renumbering_fault
    passed-order = order-arranges _ order (passed_first _ _ (passed-second _ _ passed))

    pub passed-own : Arranges (length order) order
    passed-own = subst (λ (n : ℕ). Arranges n order) (sym passed-order.long) passed-order

    pub passed-few : length order ≤ 192
    passed-few = omega (arith, passed-order.long, accepted-few t passed-tables)

    pub passed-inclusions : IdsBelow (length order) t.inclusions
    passed-inclusions = λ p l. omega (arith, passed-order.long, inclusions-below t (well_formed t passed-tables) p l)

    pub passed-questions : IdsBelow (length order) t.questions
    passed-questions = λ p l. omega (arith, passed-order.long, questions-below t (well_formed t passed-tables) p l)

    pub concepts-room : length t.concepts ≤ concepts
    unfolding renumbering_fault
    concepts-room = buffer-fits _ _ (passed_first _ _ (passed-second _ _ (passed-second _ _ (passed-second _ _ passed))))

    pub inclusions-room : length t.inclusions ≤ inclusions
    unfolding renumbering_fault
    inclusions-room = buffer-fits _ _ (passed_first _ _ (passed-second _ _ (passed-second _ _ (passed-second _ _ (passed-second _ _ passed)))))

    pub questions-room : length t.questions ≤ questions
    unfolding renumbering_fault
    questions-room = buffer-fits _ _ (passed-second _ _ (passed-second _ _ (passed-second _ _ (passed-second _ _ (passed-second _ _ passed)))))

-- ---- what is written
module _ (t : Tables) (order concepts inclusions questions : List ℕ) (x : Outcome)
    (e : x ≡ renumbering_fault t order (length concepts) (length inclusions) (length questions)) where
  pub renumber-refused : (r : Refusal) → x ≡ Err r → Renumbers t order concepts concepts inclusions inclusions questions questions (reply_of (Err r))
  unfolding put_in
  renumber-refused r h =
      let q : renumbering_fault t order (length concepts) (length inclusions) (length questions) ≡ Err r = sym e ∙ h in
      record {
        replied = same-reply _ _ (sym q);
        put-concepts = rw q refl;
        put-inclusions = rw q refl;
        put-questions = rw q refl;
      }

  pub renumber-done :
      x ≡ Done → (concepts' inclusions' questions' : List ℕ) → concepts' ≡ in_front (moved_concepts order t.concepts) concepts
      → inclusions' ≡ in_front (moved_ids order t.inclusions) inclusions → questions' ≡ in_front (moved_ids order t.questions) questions
      → Renumbers t order concepts concepts' inclusions inclusions' questions questions' (reply_of Done)
  unfolding put_in
  renumber-done h concepts' inclusions' questions' c i q =
      let d : renumbering_fault t order (length concepts) (length inclusions) (length questions) ≡ Done = sym e ∙ h in
      record {
        replied = same-reply _ _ (sym d);
        put-concepts = rw d c;
        put-inclusions = rw d i;
        put-questions = rw d q;
      }
