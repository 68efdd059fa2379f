-- Listing the atoms: what is answered, what the buffer holds, and what whoever asked for the list may use.
use Rattle.std.specs.Prelude.{Err, Ok, Result}
use Prim.Native.Nat.{ℕ, ◌≤◌, ◌<◌}
use mathlib.Core.Path.{◌≡◌, refl, sym, ap, ◌∙◌, subst}
use mathlib.Core.List.{List, ◌++◌}
use mathlib.Core.Bool.{Bool}
use native.Mathlib.Omega.{arith}
use lib.ListN.{length, take, drop}
use lib.Seq.{take-append_seam}
use Rattle.subsumption.specs.declared.refusal.Refusal.{Refusal}
use Rattle.subsumption.specs.declared.refusal.Refusal.TheVariants.{BufferTooShort}
use Rattle.subsumption.specs.Tables.{Tables, tables, count_of}
use Rattle.subsumption.specs.Atoms.{atoms}
use Rattle.subsumption.specs.Refusal.{Reply, reply_done, reply_refused, reply_with, or_else, Outcome, Done, value_reply}
use Rattle.subsumption.specs.Check.{use_fault, concept_fault, alone_fault, id_fault, table_fault, pair_fault, buffer_fault}
use Rattle.subsumption.specs.Listing.{listing_fault, listed_in, ListedBy}
use Rattle.subsumption.specs.Inner.Listing.{Accepted, Prepared, used_fault, asked_fault}
use Rattle.subsumption.specs.Inner.Atoms.{marked_ids, in_front}
use Rattle.subsumption.specs.Inner.Check.{Used}
use Rattle.subsumption.proofs.Refusals.{stops, goes_on, done-le, refused-lt, passed_first, passed-second}
use Rattle.subsumption.proofs.Replies.{by-refusal, by_value}
use Rattle.subsumption.proofs.AtomMarking.{atoms-listed, used-few}
use Rattle.subsumption.proofs.Accepted.{well_formed}

-- ---- what is answered

module _ (t : Tables) (before : List ℕ) where
  pub listing-refused : (r : Refusal) (fault : Outcome) → Err r ≡ fault → ListedBy t before before fault (reply_refused r)
  unfolding listed_in
  listing-refused r fault e = subst (λ (f : Outcome). ListedBy t before before f (reply_refused r)) e (record { replied = refl; written = refl })

  listing-done : (n : ℕ) (after : List ℕ) (fault : Outcome) → Done ≡ fault → n ≡ length (atoms t) → after ≡ in_front (atoms t) before → ListedBy t before after fault (reply_done n)
  unfolding listed_in
  listing-done n after fault e p q =
      subst (λ (f : Outcome). ListedBy t before after f (reply_done n)) e (record { replied = ap reply_done p; written = q })

-- ---- checks 5 to 8
module _ (t : Tables) (before : List ℕ) (marks : List Bool) (x : Outcome) (u : Used t marks x) where
  pub used-refused : (r : Refusal) → x ≡ Err r → ListedBy t before before (used_fault t (length before)) (reply_refused r)
  unfolding used_fault
  used-refused r e = listing-refused t before r _ (stops x _ _ r u.answered e)

  pub used-short : x ≡ Done → length before < 64 → ListedBy t before before (used_fault t (length before)) (reply_refused (BufferTooShort 64))
  unfolding used_fault buffer_fault
  used-short e h = listing-refused t before _ _ (goes_on x _ _ _ u.answered e (refused-lt _ _ _ h))

  same-ids : x ≡ Done → marked_ids marks (count_of t.concepts) ≡ atoms t
  same-ids e = atoms-listed t marks (u.marked e)

  pub used-room : x ≡ Done → 64 ≤ length before → length (marked_ids marks (count_of t.concepts)) ≤ length before
  used-room e h = omega (arith, ap length (same-ids e), used-few t (sym u.answered ∙ e))

  pub used-listed :
      (n : ℕ) (after : List ℕ) → x ≡ Done → 64 ≤ length before → n ≡ length (marked_ids marks (count_of t.concepts))
      → after ≡ in_front (marked_ids marks (count_of t.concepts)) before → ListedBy t before after (used_fault t (length before)) (reply_done n)
  unfolding used_fault buffer_fault
  used-listed n after e h p q =
      listing-done t before n after _ (goes_on x _ _ _ u.answered e (done-le _ _ _ h)) (p ∙ ap length (same-ids e))
      (q ∙ ap (λ (z : List ℕ). in_front z before) (same-ids e))

-- ---- the order of the checks
regroup : (a b c d : Outcome) → or_else (or_else a (or_else b c)) d ≡ or_else a (or_else b (or_else c d))
unfolding or_else
regroup (Ok _) (Ok _) c d = refl
regroup (Ok _) (Err r) c d = refl
regroup (Err r) b c d = refl

module _ (t : Tables) (before : List ℕ) (x : Outcome) (ex : x ≡ concept_fault t) where
  listing-order : listing_fault t (length before) ≡ or_else (concept_fault t) (or_else (id_fault t) (used_fault t (length before)))
  unfolding listing_fault table_fault used_fault
  listing-order = regroup (concept_fault t) (id_fault t) (use_fault t) (buffer_fault 64 (length before))

  pub listing-concepts : (r : Refusal) → x ≡ Err r → ListedBy t before before (listing_fault t (length before)) (reply_refused r)
  listing-concepts r h = listing-refused t before r _ (stops x _ _ r ex h ∙ sym listing-order)

  module _ (hx : x ≡ Done) (y : Outcome) (ey : y ≡ id_fault t) where
    pub listing-ids : (r : Refusal) → y ≡ Err r → ListedBy t before before (listing_fault t (length before)) (reply_refused r)
    listing-ids r h = listing-refused t before r _ (goes_on x _ _ _ ex hx (stops y _ _ r ey h) ∙ sym listing-order)

    pub listing-used :
        (after : List ℕ) (r : Reply) → y ≡ Done → ListedBy t before after (used_fault t (length before)) r → ListedBy t before after (listing_fault t (length before)) r
    listing-used after r hy h =
        subst (λ (f : Outcome). ListedBy t before after f r) (goes_on x _ _ _ ex hx (goes_on y _ _ _ ey hy refl) ∙ sym listing-order) h

  -- the same with an asked pair
  module _ (left right : ℕ) where
    asked-order :
        asked_fault t left right (length before)
        ≡ or_else (concept_fault t) (or_else (alone_fault t.concepts left right) (or_else (id_fault t) (used_fault t (length before))))
    unfolding asked_fault pair_fault used_fault or_else
    asked-order = go (concept_fault t)
      where
        go : (a : Outcome) → or_else (or_else a (or_else (alone_fault t.concepts left right) (or_else (id_fault t) (use_fault t)))) (buffer_fault 64 (length before)) ≡ or_else a (or_else (alone_fault t.concepts left right) (or_else (id_fault t) (or_else (use_fault t) (buffer_fault 64 (length before)))))
        go (Ok tt) = regroup (alone_fault t.concepts left right) (id_fault t) (use_fault t) (buffer_fault 64 (length before))
        go (Err r) = refl

    pub asked-concepts : (r : Refusal) → x ≡ Err r → ListedBy t before before (asked_fault t left right (length before)) (reply_refused r)
    asked-concepts r h = listing-refused t before r _ (stops x _ _ r ex h ∙ sym asked-order)

    module _ (hx : x ≡ Done) (z : Outcome) (ez : z ≡ alone_fault t.concepts left right) where
      pub asked-alone : (r : Refusal) → z ≡ Err r → ListedBy t before before (asked_fault t left right (length before)) (reply_refused r)
      asked-alone r h = listing-refused t before r _ (goes_on x _ _ _ ex hx (stops z _ _ r ez h) ∙ sym asked-order)

      module _ (hz : z ≡ Done) (y : Outcome) (ey : y ≡ id_fault t) where
        pub asked-ids : (r : Refusal) → y ≡ Err r → ListedBy t before before (asked_fault t left right (length before)) (reply_refused r)
        asked-ids r h = listing-refused t before r _ (goes_on x _ _ _ ex hx (goes_on z _ _ _ ez hz (stops y _ _ r ey h)) ∙ sym asked-order)

        pub asked-used :
            (after : List ℕ) (r : Reply) → y ≡ Done → ListedBy t before after (used_fault t (length before)) r
            → ListedBy t before after (asked_fault t left right (length before)) r
        asked-used after r hy h =
            subst (λ (f : Outcome). ListedBy t before after f r)
            (goes_on x _ _ _ ex hx (goes_on z _ _ _ ez hz (goes_on y _ _ _ ey hy refl)) ∙ sym asked-order) h

-- a pair given alone is checked with the tables
pub pair-tables : (t : Tables) (left right : ℕ) → pair_fault t left right ≡ Done → table_fault t ≡ Done
unfolding pair_fault table_fault
pair-tables t left right h = sym (goes_on _ _ _ Done refl (passed_first _ _ h) (sym (passed-second _ _ (passed-second _ _ h))))

-- ---- for whoever asked, with a buffer of 64
module _ (t : Tables) (f : Outcome) (before after : List ℕ) (r : (Result ℕ Refusal)) (long : length before ≡ 64)
    (e : value_reply r ≡ reply_with (or_else f (buffer_fault 64 (length before))) (length (atoms t)))
    (w : after ≡ listed_in (or_else f (buffer_fault 64 (length before))) t before) where
  room : or_else f (buffer_fault 64 (length before)) ≡ f
  unfolding buffer_fault or_else
  room = go f (sym (done-le (length before) 64 (BufferTooShort 64) (omega arith)))
    where
      go : (f : Outcome) {g : Outcome} → g ≡ Done → or_else f g ≡ f
      go (Ok tt) h = h
      go (Err r) h = refl

  rejected-by : (q : Refusal) → r ≡ Err q → Err q ≡ f
  rejected-by q h = by-refusal _ _ q (ap value_reply (sym h) ∙ e) ∙ room

  passed : (k : ℕ) → r ≡ Ok k → (or_else f (buffer_fault 64 (length before)) ≡ Done) × (k ≡ length (atoms t))
  passed k h = by_value _ _ k (ap value_reply (sym h) ∙ e)

  passed-by : (k : ℕ) → r ≡ Ok k → f ≡ Done
  passed-by k h = sym room ∙ (passed k h).0

  taken-by : (k : ℕ) → r ≡ Ok k → take k after ≡ atoms t
  unfolding listed_in
  taken-by k h =
      let (p, n) = passed k h in
      ap (take k) (w ∙ ap (λ (z : Outcome). listed_in z t before) p) ∙ ap (λ (z : ℕ). take z (atoms t ++ drop (length (atoms t)) before)) n
      ∙ take-append_seam (atoms t) (drop (length (atoms t)) before)

  accepted-by : (f ≡ Done → table_fault t ≡ Done) → (k : ℕ) → r ≡ Ok k → Accepted t (take k after) × (k ≤ 64)
  accepted-by p k h =
      let g = p (passed-by k h) in
      (record { passed = g; listed = taken-by k h }, omega (arith, (passed k h).1, (well_formed t g).few-atoms))

module _ (t : Tables) (before after : List ℕ) (r : (Result ℕ Refusal)) (long : length before ≡ 64)
    (e : value_reply r ≡ reply_with (listing_fault t (length before)) (length (atoms t))) (w : after ≡ listed_in (listing_fault t (length before)) t before) where
  pub tables-rejected : (q : Refusal) → r ≡ Err q → Err q ≡ table_fault t
  unfolding listing_fault
  tables-rejected = rejected-by t (table_fault t) before after r long e w

  pub tables-listed : (k : ℕ) → r ≡ Ok k → Accepted t (take k after)
  unfolding listing_fault
  tables-listed k h = (accepted-by t (table_fault t) before after r long e w (λ g. g) k h).0

  pub tables-few : (k : ℕ) → r ≡ Ok k → k ≤ 64
  unfolding listing_fault
  tables-few k h = (accepted-by t (table_fault t) before after r long e w (λ g. g) k h).1

module _ (t : Tables) (left right : ℕ) (before after : List ℕ) (r : (Result ℕ Refusal)) (long : length before ≡ 64)
    (e : value_reply r ≡ reply_with (asked_fault t left right (length before)) (length (atoms t)))
    (w : after ≡ listed_in (asked_fault t left right (length before)) t before) where
  pub asked-rejected : (q : Refusal) → r ≡ Err q → Err q ≡ pair_fault t left right
  unfolding asked_fault
  asked-rejected = rejected-by t (pair_fault t left right) before after r long e w

  pub asked-passed : (k : ℕ) → r ≡ Ok k → pair_fault t left right ≡ Done
  unfolding asked_fault
  asked-passed = passed-by t (pair_fault t left right) before after r long e w

  pub asked-listed : (k : ℕ) → r ≡ Ok k → Accepted t (take k after)
  unfolding asked_fault
  asked-listed k h = (accepted-by t (pair_fault t left right) before after r long e w (pair-tables t left right) k h).0

  pub asked-few : (k : ℕ) → r ≡ Ok k → k ≤ 64
  unfolding asked_fault
  asked-few k h = (accepted-by t (pair_fault t left right) before after r long e w (pair-tables t left right) k h).1

pub prepared : (cs is qs rs : List ℕ) (v : ℕ) (ids : List ℕ) → Accepted (tables cs is qs rs v) ids → Prepared cs is rs v ids
prepared cs is qs rs v ids a = record { questions = qs; accepted = a }
