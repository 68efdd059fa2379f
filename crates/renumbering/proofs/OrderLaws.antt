-- A list that passed check 21 gives each id below the count one new id, and each new id has its place; the list that leads back, and one
-- list after another.
use Rattle.subsumption.specs.Refusal.{Done}
use Prim.Native.Nat.{ℕ, zero, suc, ◌+◌, ◌<◌}
use mathlib.Core.Path.{◌≡◌, refl, sym, ap, ◌∙◌}
use mathlib.Core.List.{List, [], ◌∷◌}
use mathlib.Core.Bool.{Bool, true, false, not, true≢false}
use mathlib.Core.Logic.{⊎_elim}
use native.Mathlib.Omega.{arith}
use lib.Dec.{eqb, ltb}
use lib.ListN.{length, get_or}
use lib.Seq.{ext_get_or}
use borrow.Author.Tests.{eqb-true, ltb-true, lt-ltb, eq-eqb, ne_eqb, not-false}
use Rattle.subsumption.specs.Tables.{or}
use Rattle.subsumption.proofs.Bools.{or-false, or-skip, last-cases, any_below-intro, any_below-elim, le-or-lt, eq-or-ne}
use Rattle.subsumption.proofs.Refusals.{both-done, done-if, passed_first, passed-second, passed-if, passed-at, no-fault}
use Rattle.renumbering.specs.Order.{new_id, stood, order_fault, place_of, places_of, inverse, moved_ids, composed}
use Rattle.renumbering.specs.Inner.Order.{Arranges}

-- ---- A map of the numbers below n into themselves that sends no two to one is onto: without its last number it still is such a map, once
-- the last value stands in for the value n.
abbrev instead : Bool → ℕ → ℕ → ℕ
instead true a x = a
instead false a x = x

module _ (n : ℕ) (f : ℕ → ℕ) where
  abbrev without : ℕ → ℕ
  without i = instead (eqb (f i) n) (f n) (f i)

  without-last : (i : ℕ) → f i ≡ n → without i ≡ f n
  without-last i e = rw (eq-eqb (f i) n e) refl

  without_other : (i : ℕ) → (f i ≡ n → ⊥) → without i ≡ f i
  without_other i e = rw (ne_eqb (f i) n e) refl

  module _ (low : (i : ℕ) → i < suc n → f i < suc n) (apart : (i j : ℕ) → i < suc n → j < suc n → f i ≡ f j → i ≡ j) where
    not_last : (i : ℕ) → i < n → f i ≡ f n → ⊥
    not_last i l e = let z = apart i n (omega arith) (omega arith) e in omega arith

    without-low : (i : ℕ) → i < n → without i < n
    without-low i l =
        ⊎_elim
        (λ e. let no : f n ≡ n → ⊥ = λ q. not_last i l (e ∙ sym q) in omega (arith, without-last i e, low n (omega arith), no))
        (λ e. omega (arith, without_other i e, low i (omega arith), e)) (eq-or-ne (f i) n)

    without-apart : (i j : ℕ) → i < n → j < n → without i ≡ without j → i ≡ j
    without-apart i j l k e =
        ⊎_elim
        (λ p.
        ⊎_elim (λ q. apart i j (omega arith) (omega arith) (p ∙ sym q))
        (λ q. absurd (not_last j k (sym (without_other j q) ∙ sym e ∙ without-last i p))) (eq-or-ne (f j) n))
        (λ p.
        ⊎_elim (λ q. absurd (not_last i l (sym (without_other i p) ∙ e ∙ without-last j q)))
        (λ q. apart i j (omega arith) (omega arith) (sym (without_other i p) ∙ e ∙ without_other j q)) (eq-or-ne (f j) n))
        (eq-or-ne (f i) n)

    module _ (rest : (m : ℕ) → m < n → (i : ℕ) × (i < n) × (without i ≡ m)) (k : ℕ) (e : k ≡ f n → ⊥) where
      reach-last : k ≡ n → (i : ℕ) × (i < suc n) × (f i ≡ k)
      reach-last q =
          let (i, l, r) = rest (f n) (omega (arith, low n (omega arith), e)) in
          ⊎_elim (λ p. (i, omega arith, p ∙ sym q)) (λ p. absurd (not_last i l (sym (without_other i p) ∙ r))) (eq-or-ne (f i) n)

      reach-before : k < n → (i : ℕ) × (i < suc n) × (f i ≡ k)
      reach-before q =
          let (i, l, r) = rest k q in
          ⊎_elim (λ p. absurd (e (sym r ∙ without-last i p))) (λ p. (i, omega arith, sym (without_other i p) ∙ r)) (eq-or-ne (f i) n)

onto :
    (n : ℕ) (f : ℕ → ℕ) → ((i : ℕ) → i < n → f i < n) → ((i j : ℕ) → i < n → j < n → f i ≡ f j → i ≡ j) → (k : ℕ) → k < n
    → (i : ℕ) × (i < n) × (f i ≡ k)
onto zero f low apart k h = absurd (omega arith)
onto (suc n) f low apart k h =
    let rest : (m : ℕ) → m < n → (i : ℕ) × (i < n) × (without n f i ≡ m) = onto n (without n f) (without-low n f low apart) (without-apart n f low apart) in
    ⊎_elim (λ (e : k ≡ f n). (n, omega arith, sym e))
    (λ e. ⊎_elim (reach-last n f low apart rest k e) (reach-before n f low apart rest k e) (last-cases k n h)) (eq-or-ne k (f n))

-- ---- check 21
module _ (count : ℕ) (order : List ℕ) where
  module _ (h : order_fault count order ≡ Done) where
    order-long : length order ≡ count
    unfolding order_fault
    order-long = eqb-true _ _ (not-false _ (passed-if _ _ (passed-second _ _ h)))

    order-at : (m : ℕ) → m < length order → or (not (ltb (new_id order m) count)) (stood order m) ≡ false
    unfolding order_fault
    order-at m l = passed-at _ (λ m. or (not (ltb (new_id order m) count)) (stood order m)) 0 _ (passed_first _ _ h) m (omega arith) (omega arith)

    order-before : (i j : ℕ) → i < j → j < length order → new_id order i ≡ new_id order j → ⊥
    unfolding stood
    order-before i j l k e =
        true≢false
        (sym (any_below-intro j (λ n. eqb (new_id order n) (new_id order j)) i l (eq-eqb _ _ e)) ∙ (or-false _ _ (order-at j k)).1)

    pub order-arranges : Arranges count order
    order-arranges =
        record {
          long = order-long;
          low = λ i l. ltb-true _ _ (not-false _ (or-false _ _ (order-at i (omega (arith, order-long)))).0);
          apart = λ i j l k e.
              ⊎_elim
              (λ p. ⊎_elim (λ q. omega arith) (λ q. absurd (order-before i j q (omega (arith, order-long)) e)) (le-or-lt j i))
              (λ p. absurd (order-before j i p (omega (arith, order-long)) (sym e))) (le-or-lt i j);
        }

  module _ (A : Arranges count order) where
    not-stood : (m : ℕ) → m < length order → (b : Bool) → stood order m ≡ b → b ≡ false
    unfolding stood
    not-stood m l true e =
        let (i, k, q) = any_below-elim m (λ n. eqb (new_id order n) (new_id order m)) e in
        let z = A.apart i m (omega (arith, A.long)) (omega (arith, A.long)) (eqb-true _ _ q) in
        absurd (omega arith)
    not-stood m l false e = refl

    order-sound : (m : ℕ) → m < length order → or (not (ltb (new_id order m) count)) (stood order m) ≡ false
    order-sound m l = or-skip _ _ (ap not (lt-ltb _ _ (A.low m (omega (arith, A.long))))) ∙ not-stood m l (stood order m) refl

    pub arranges-order : order_fault count order ≡ Done
    unfolding order_fault
    arranges-order =
        sym
        (both-done Done _ Done _ (no-fault _ (λ m. or (not (ltb (new_id order m) count)) (stood order m)) 0 (length order) (λ m l. order-sound m (omega arith)))
        refl (done-if _ _ (ap not (eq-eqb _ _ A.long))) refl)

-- ---- the place of a new id
place_found : (order : List ℕ) (k i : ℕ) → i < length order → new_id order i ≡ k → (place_of k order < length order) × (new_id order (place_of k order) ≡ k)
unfolding place_of
place_found [] k i l e = absurd (omega arith)
place_found (x ∷ xs) k zero l e = rw (eq-eqb x k e) (omega arith, e)
place_found (x ∷ xs) k (suc i) l e = step (place_found xs k i (omega arith) e) (eqb x k) refl
  where
    step :
        (place_of k xs < length xs) × (new_id xs (place_of k xs) ≡ k) → (b : Bool) → eqb x k ≡ b
        → (place_of k (x ∷ xs) < length (x ∷ xs)) × (new_id (x ∷ xs) (place_of k (x ∷ xs)) ≡ k)
    step s true e = rw e (omega arith, eqb-true x k e)
    step s false e = rw e (omega (arith, s.0), s.1)

places-length : (order : List ℕ) (from count : ℕ) → length (places_of order from count) ≡ count
unfolding places_of
places-length order from zero = refl
places-length order from (suc count) = ap suc (places-length order (suc from) count)

places-at : (order : List ℕ) (from count m : ℕ) → m < count → get_or (places_of order from count) m 0 ≡ place_of (from + m) order
unfolding places_of
places-at order from zero m l = absurd (omega arith)
places-at order from (suc count) zero l = ap (λ (z : ℕ). place_of z order) (omega arith)
places-at order from (suc count) (suc m) l =
    places-at order (suc from) count m (omega arith) ∙ ap (λ (z : ℕ). place_of z order) (omega arith)

pub inverse-length : (order : List ℕ) → length (inverse order) ≡ length order
unfolding inverse
inverse-length order = places-length order 0 (length order)

pub inverse-at : (order : List ℕ) (k : ℕ) → k < length order → new_id (inverse order) k ≡ place_of k order
unfolding inverse
inverse-at order k l = places-at order 0 (length order) k l ∙ ap (λ (z : ℕ). place_of z order) (omega arith)

pub moved_length : (order ids : List ℕ) → length (moved_ids order ids) ≡ length ids
unfolding moved_ids
moved_length order [] = refl
moved_length order (i ∷ ids) = ap suc (moved_length order ids)

pub moved_at : (order ids : List ℕ) (p : ℕ) → p < length ids → get_or (moved_ids order ids) p 0 ≡ new_id order (get_or ids p 0)
unfolding moved_ids
moved_at order [] p l = absurd (omega arith)
moved_at order (i ∷ ids) zero l = refl
moved_at order (i ∷ ids) (suc p) l = moved_at order ids p (omega arith)

module _ (count : ℕ) (order : List ℕ) (A : Arranges count order) where
  pub place-of : (k : ℕ) → k < count → (place_of k order < count) × (new_id order (place_of k order) ≡ k)
  place-of k l =
      let (i, h, e) = onto count (new_id order) A.low A.apart k l in
      let (u, v) = place_found order k i (omega (arith, A.long)) e in
      (omega (arith, A.long), v)

  pub of-place : (i : ℕ) → i < count → place_of (new_id order i) order ≡ i
  of-place i l = let (u, v) = place-of (new_id order i) (A.low i l) in A.apart _ i u l v

  pub inverse-new : (k : ℕ) → k < count → new_id (inverse order) k ≡ place_of k order
  inverse-new k l = inverse-at order k (omega (arith, A.long))

  pub inverse-arranges : Arranges count (inverse order)
  inverse-arranges =
      record {
        long = inverse-length order ∙ A.long;
        low = λ k l. omega (arith, inverse-new k l, (place-of k l).0);
        apart = λ k m l h e.
            sym (place-of k l).1 ∙ ap (new_id order) (sym (inverse-new k l) ∙ e ∙ inverse-new m h) ∙ (place-of m h).1;
      }

  -- the list that leads back leads back
  pub back-there : (i : ℕ) → i < count → new_id (inverse order) (new_id order i) ≡ i
  back-there i l = inverse-new (new_id order i) (A.low i l) ∙ of-place i l

  pub there_back : (k : ℕ) → k < count → new_id order (new_id (inverse order) k) ≡ k
  there_back k l = ap (new_id order) (inverse-new k l) ∙ (place-of k l).1

module _ (count : ℕ) (order : List ℕ) (A : Arranges count order) where
  -- the place in the list that leads back is the new id
  pub place-inverse : (i : ℕ) → i < count → place_of i (inverse order) ≡ new_id order i
  place-inverse i l =
      ap (λ (z : ℕ). place_of z (inverse order)) (sym (back-there count order A i l))
      ∙ of-place count (inverse order) (inverse-arranges count order A) (new_id order i) (A.low i l)

  pub inverse-inverse : inverse (inverse order) ≡ order
  inverse-inverse =
      ext_get_or 0 _ _ (inverse-length (inverse order) ∙ inverse-length order)
      (λ i l.
      let h : i < count = omega (arith, inverse-length (inverse order), inverse-length order, A.long) in
      inverse-new count (inverse order) (inverse-arranges count order A) i h ∙ place-inverse i h)

module _ (count : ℕ) (order next : List ℕ) (A : Arranges count order) (B : Arranges count next) where
  pub composed-new : (i : ℕ) → i < count → new_id (composed order next) i ≡ new_id next (new_id order i)
  unfolding composed
  composed-new i l = moved_at next order i (omega (arith, A.long))

  composed-long : length (composed order next) ≡ count
  unfolding composed
  composed-long = moved_length next order ∙ A.long

  pub composed-arranges : Arranges count (composed order next)
  composed-arranges =
      record {
        long = composed-long;
        low = λ i l. omega (arith, composed-new i l, B.low (new_id order i) (A.low i l));
        apart = λ i j l k e.
            A.apart i j l k (B.apart (new_id order i) (new_id order j) (A.low i l) (A.low j k) (sym (composed-new i l) ∙ e ∙ composed-new j k));
      }

module _ (count : ℕ) (order next : List ℕ) (A : Arranges count order) (B : Arranges count next) where
  pub place-composed : (k : ℕ) → k < count → place_of k (composed order next) ≡ place_of (place_of k next) order
  place-composed k l =
      let (u, v) = place-of count next B k l in
      let (p, q) = place-of count order A (place_of k next) u in
      ap (λ (z : ℕ). place_of z (composed order next)) (sym (composed-new count order next A B _ p ∙ ap (new_id next) q ∙ v))
      ∙ of-place count (composed order next) (composed-arranges count order next A B) (place_of (place_of k next) order) p
