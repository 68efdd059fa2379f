-- An assignment told as pairs: it is accepted, it chooses just what is told, and how the code reads it.
use Rattle.std.specs.Prelude.{Err}
use Prim.Native.Nat.{ℕ, zero, suc, ◌+◌, ◌*◌, ◌/◌, ◌%◌, ◌^◌, ◌<◌, ◌≤◌}
use mathlib.Core.Path.{◌≡◌, refl, sym, ap, ap₂, ◌∙◌, subst}
use mathlib.Core.List.Memᴰ
use mathlib.Core.List.{List, [], ◌∷◌, Memᴰ}
use mathlib.Core.Bool.{Bool, true, false, not, false≢true}
use mathlib.Core.Logic.{⊎_elim, ◌↔◌}
use native.Mathlib.Omega.{arith}
use native.Mathlib.Nat.{pow-suc, zero-add}
use native.Mathlib.Numerals.{add-one}
use lib.Dec.{eqb, ltb}
use lib.Pow.{pow-lt}
use lib.ListN.{length, get_or, set, length-set, replicate, length-replicate, get_or-replicate}
use lib.Seq.{get_or-set_same, get_or-set_other}
use lib.Bits.{bit_or, or_lt}
use borrow.Author.Tests.{eqb-true, eq-eqb, ne_eqb, ltb-true, lt-ltb, le-ltb, not-false}
use Rattle.subsumption.specs.declared.refusal.Refusal.TheVariants.{BadAssignment}
use Rattle.subsumption.specs.Tables.{Tables, or, both, any_below, pairs_of, left_of, right_of}
use Rattle.subsumption.specs.Atoms.{bit, atoms, chosen}
use Rattle.subsumption.specs.Rules.{contains}
use Rattle.subsumption.specs.Refusal.{or_else, refuse_if, first_at, Outcome, Done}
use Rattle.subsumption.specs.Check.{assignment_fault, assignment_fault_at}
use Rattle.subsumption.specs.Table.{one}
use Rattle.subsumption.proofs.Bools.{or_cases, or-first, or-second, or-false, or-skip, both_true, both-none, both-skip, any_below-elim, same_bool, eq-or-ne, le-or-lt}
use Rattle.subsumption.proofs.Bits.{bit-half, bit-or, bit-pow, bit-pow-other}
use Rattle.subsumption.proofs.Refusals.{no-fault, both-done, done-if, passed-second, passed-at}
use Rattle.subsumption.proofs.Chosen.{pick-member, pick_intro, get_or-member}
use Rattle.subsumption.proofs.RuleTests.{contains-elim, contains-intro}
use Rattle.subsumption.proofs.MarkLaws.{shifted}
use Rattle.incremental.specs.Told.{told_fault, tells, coded, choices, told_assignment}
use Rattle.incremental.specs.Inner.Told.{bad_pair, told_fault_in, PlaceOf, Readable, tells_to, ToldTo, ToldChoices}

-- ---- the number of a choice
one-small : (b : Bool) → one b ≤ 1
unfolding one
one-small true = omega arith
one-small false = omega arith

one-odd : (b : Bool) (y : ℕ) → eqb ((one b + y * 2) % 2) 1 ≡ b
unfolding one
one-odd true y = let e : (1 + y * 2) % 2 ≡ 1 = omega arith in ap (λ (z : ℕ). eqb z 1) e
one-odd false y = let e : (0 + y * 2) % 2 ≡ 0 = omega arith in ap (λ (z : ℕ). eqb z 1) e

pub coded-less : (test : ℕ → Bool) (ids : List ℕ) → coded test ids < 2 ^ length ids
unfolding coded
coded-less test [] = omega arith
coded-less test (p ∷ ids) = omega (arith, pow-suc 2 (length ids), one-small (test p), coded-less test ids)

pub coded-bit : (test : ℕ → Bool) (ids : List ℕ) (q : ℕ) → q < length ids → bit (coded test ids) q ≡ test (get_or ids q 0)
unfolding coded bit
coded-bit test [] q l = absurd (omega arith)
coded-bit test (p ∷ ids) zero l = ap (λ (z : ℕ). eqb (z % 2) 1) (whole (coded test (p ∷ ids))) ∙ one-odd (test p) (coded test ids)
  where
    whole : (x : ℕ) → x / 2 ^ 0 ≡ x
    whole x = omega arith
coded-bit test (p ∷ ids) (suc q) l =
    sym (bit-half (coded test (p ∷ ids)) q) ∙ ap (λ (z : ℕ). bit z q) (half _ _ (one-small (test p))) ∙ coded-bit test ids q (omega arith)
  where
    half : (x y : ℕ) → x ≤ 1 → (x + y * 2) / 2 ≡ y
    half x y l = omega arith

coded-same : (f g : ℕ → Bool) (ids : List ℕ) → ((p : ℕ) → f p ≡ g p) → coded f ids ≡ coded g ids
unfolding coded
coded-same f g [] e = refl
coded-same f g (p ∷ ids) e = ap₂ (λ (x y : ℕ). x + y * 2) (ap one (e p)) (coded-same f g ids e)

coded_none : (f : ℕ → Bool) (ids : List ℕ) → ((p : ℕ) → f p ≡ false) → coded f ids ≡ 0
unfolding coded one
coded_none f [] e = refl
coded_none f (p ∷ ids) e = rw (e p, one) (omega (arith, coded_none f ids e))

low_bit : (x : ℕ) → bit x 0 ≡ eqb (x % 2) 1
unfolding bit
low_bit x = let e : x / 2 ^ 0 % 2 ≡ x % 2 = omega arith in ap (λ (z : ℕ). eqb z 1) e

-- numbers with the same bits are one
pub same_bits : (n x y : ℕ) → x < 2 ^ n → y < 2 ^ n → ((q : ℕ) → q < n → bit x q ≡ bit y q) → x ≡ y
same_bits zero x y h l e = omega arith
same_bits (suc n) x y h l e =
    let u = same_bits n (x / 2) (y / 2) (omega (arith, pow-suc 2 n)) (omega (arith, pow-suc 2 n)) (λ q k. bit-half x q ∙ e (suc q) (omega arith) ∙ sym (bit-half y q)) in
    omega (arith, u, same-odd x y (e 0 (omega arith)))
  where
    same-odd : (x y : ℕ) → bit x 0 ≡ bit y 0 → x % 2 ≡ y % 2
    same-odd x y e = go (sym (low_bit x) ∙ e ∙ low_bit y)
      where
        go : eqb (x % 2) 1 ≡ eqb (y % 2) 1 → x % 2 ≡ y % 2
        go f =
            ⊎_elim (λ (u : x % 2 ≡ 1). u ∙ sym (eqb-true _ 1 (sym f ∙ eq-eqb _ 1 u)))
            (λ n. ⊎_elim (λ (u : y % 2 ≡ 1). absurd (n (eqb-true _ 1 (f ∙ eq-eqb _ 1 u)))) (λ m. omega arith) (eq-or-ne (y % 2) 1)) (eq-or-ne (x % 2) 1)

-- ---- the told assignment
choices-length : (test : ℕ → ℕ → Bool) (ids : List ℕ) (k n : ℕ) → length (choices test ids k n) ≡ n
unfolding choices
choices-length test ids k zero = refl
choices-length test ids k (suc n) = ap suc (choices-length test ids (suc k) n)

choices-at : (test : ℕ → ℕ → Bool) (ids : List ℕ) (k n i : ℕ) → i < n → get_or (choices test ids k n) i 0 ≡ coded (test (k + i)) ids
unfolding choices
choices-at test ids k zero i l = absurd (omega arith)
choices-at test ids k (suc n) zero l = ap (λ (z : ℕ). coded (test z) ids) (omega arith)
choices-at test ids k (suc n) (suc i) l = choices-at test ids (suc k) n i (omega arith) ∙ ap (λ (z : ℕ). coded (test z) ids) (omega arith)

module _ (t : Tables) (told : List ℕ) where
  pub told-length : length (told_assignment t told) ≡ t.variables
  unfolding told_assignment
  told-length = choices-length (tells told) (atoms t) 0 t.variables

  pub told_at : (k : ℕ) → k < t.variables → get_or (told_assignment t told) k 0 ≡ coded (tells told k) (atoms t)
  unfolding told_assignment
  told_at k l = choices-at (tells told) (atoms t) 0 t.variables k l ∙ ap (λ (z : ℕ). coded (tells told z) (atoms t)) (zero-add k)

  -- A told assignment is accepted, whatever the pairs are.
  pub told-accepted : assignment_fault t (told_assignment t told) ≡ Done
  unfolding assignment_fault assignment_fault_at
  told-accepted =
      sym (both-done Done _ Done _ (done-if _ _ (ap not (eq-eqb _ _ told-length))) refl
      (no-fault BadAssignment (λ k. not (ltb (get_or (told_assignment t told) k 0) (2 ^ length (atoms t)))) 0 t.variables
      (λ k l. ap not (lt-ltb _ _ (small k (omega arith))))) refl)
    where
      small : (k : ℕ) → k < t.variables → get_or (told_assignment t told) k 0 < 2 ^ length (atoms t)
      small k l = subst (λ (z : ℕ). z < 2 ^ length (atoms t)) (sym (told_at k l)) (coded-less (tells told k) (atoms t))

  -- what is chosen is told, and is an atom
  pub chosen-told : (k p : ℕ) → k < t.variables → Memᴰ p (chosen t (told_assignment t told) k) → tells told k p ≡ true
  unfolding chosen
  chosen-told k p l m =
      let c = pick-member (atoms t) (get_or (told_assignment t told) k 0) p m in
      ap (tells told k) (sym c.here) ∙ sym (coded-bit (tells told k) (atoms t) c.place c.known) ∙ ap (λ (z : ℕ). bit z c.place) (sym (told_at k l)) ∙ c.chosen

  told_chosen : (k p : ℕ) → k < t.variables → Memᴰ p (atoms t) → tells told k p ≡ true → Memᴰ p (chosen t (told_assignment t told) k)
  unfolding chosen
  told_chosen k p l m h =
      let (q, u, e) = member-at m in
      pick_intro (atoms t) (get_or (told_assignment t told) k 0) p
      (record {
        place = q;
        known = u;
        chosen = ap (λ (z : ℕ). bit z q) (told_at k l) ∙ coded-bit (tells told k) (atoms t) q u ∙ ap (tells told k) e ∙ h;
        here = e;
      })
    where
      member-at : {a : ℕ} {xs : List ℕ} → Memᴰ a xs → (q : ℕ) × (q < length xs) × (get_or xs q 0 ≡ a)
      member-at {a} (Memᴰ.head e) = (0, omega arith, sym e)
      member-at (Memᴰ.tail m) = let (q, u, e) = member-at m in (suc q, omega (arith, u), e)

  module _ (passed : told_fault t told ≡ Done) where
    good-pair : (m : ℕ) → m < pairs_of told → bad_pair (atoms t) t.variables (left_of told m) (right_of told m) ≡ false
    unfolding told_fault
    good-pair m l =
        passed-at _ (λ m. bad_pair (atoms t) t.variables (left_of told m) (right_of told m)) 0 _ (passed-second _ _ passed) m (omega arith) (omega arith)

    pub pair-variable : (m : ℕ) → m < pairs_of told → left_of told m < t.variables
    pair-variable m l = ltb-true _ _ (not-false _ (or-false _ _ (good-pair m l)).0)

    pub pair-atom : (m : ℕ) → m < pairs_of told → contains (right_of told m) (atoms t) ≡ true
    pair-atom m l = not-false _ (or-false _ _ (good-pair m l)).1

    told-atom : (k p : ℕ) → tells told k p ≡ true → Memᴰ p (atoms t)
    unfolding tells
    told-atom k p h =
        let (m, l, u) = any_below-elim (pairs_of told) (λ n. both (eqb (left_of told n) k) (eqb (right_of told n) p)) h in
        Memᴰ.cast (sym (eqb-true (right_of told m) p (both_true _ _ u).1)) (contains-elim (right_of told m) (atoms t) (pair-atom m l))

    -- A told assignment chooses exactly the told ids.
    pub chosen-exactly : (k p : ℕ) → k < t.variables → Memᴰ p (chosen t (told_assignment t told) k) ↔ (tells told k p ≡ true)
    chosen-exactly k p l = (chosen-told k p l, λ h. told_chosen k p l (told-atom k p h) h)

-- ---- the place of an id
pub record PlaceTo (ids : List ℕ) (id q : ℕ) : Type 0 where
  pub low : q ≤ length ids
  pub none : (r : ℕ) → r < q → get_or ids r 0 ≡ id → ⊥

module _ (ids : List ℕ) (id : ℕ) where
  pub place_found : (q : ℕ) → PlaceTo ids id q → get_or ids q 0 ≡ id → PlaceOf ids id q
  place_found q P e = record { low = P.low; found = λ _. e; none = P.none }

  pub place_none : (q : ℕ) → PlaceTo ids id q → length ids ≤ q → PlaceOf ids id q
  place_none q P h = record { low = P.low; found = λ l. absurd (omega arith); none = P.none }

  place-low : (place : ℕ) → PlaceOf ids id place → contains id ids ≡ true → place < length ids
  place-low place P h = ⊎_elim (λ l. absurd (missing l)) (λ l. l) (le-or-lt (length ids) place)
    where
      member-at : {xs : List ℕ} → Memᴰ id xs → (q : ℕ) × (q < length xs) × (get_or xs q 0 ≡ id)
      member-at (Memᴰ.head e) = (0, omega arith, sym e)
      member-at (Memᴰ.tail m) = let (q, u, e) = member-at m in (suc q, omega (arith, u), e)

      missing : length ids ≤ place → ⊥
      missing l = let (q, u, e) = member-at (contains-elim id ids h) in P.none q (omega arith) e

  pub place-bad : (place : ℕ) → PlaceOf ids id place → eqb place (length ids) ≡ not (contains id ids)
  place-bad place P = go (contains id ids) refl
    where
      go : (b : Bool) → contains id ids ≡ b → eqb place (length ids) ≡ not (contains id ids)
      go true e = ne_eqb place (length ids) (λ u. omega (arith, place-low place P e)) ∙ sym (ap not e)
      go false e =
          eq-eqb place (length ids)
          (⊎_elim (λ l. omega (arith, P.low)) (λ l. absurd (false≢true (sym e ∙ contains-intro (Memᴰ.cast (sym (P.found l)) (get_or-member ids place l))))) (le-or-lt (length ids) place))
          ∙ sym (ap not e)

-- ---- the checks in the code's order
pub bad-variable : (ids : List ℕ) (variables variable id : ℕ) → variables ≤ variable → true ≡ bad_pair ids variables variable id
bad-variable ids variables variable id h = sym (or-first _ _ (ap not (le-ltb variable variables h)))

pub bad-atom :
    (ids : List ℕ) (variables variable id place : ℕ) → variable < variables → PlaceOf ids id place → eqb place (length ids) ≡ bad_pair ids variables variable id
bad-atom ids variables variable id place h P = place-bad ids id place P ∙ sym (or-skip _ _ (ap not (lt-ltb variable variables h)))

module _ (ids : List ℕ) (variables : ℕ) (told : List ℕ) where
  pub told-ragged : (length told % 2 ≡ 0 → ⊥) → Err (BadAssignment 0) ≡ told_fault_in ids variables told
  unfolding told_fault_in or_else refuse_if
  told-ragged n = rw (ne_eqb (length told % 2) 0 n)

  pub told-even :
      (r : Outcome) → length told % 2 ≡ 0 → r ≡ first_at BadAssignment (λ m. bad_pair ids variables (left_of told m) (right_of told m)) 0 (pairs_of told)
      → r ≡ told_fault_in ids variables told
  unfolding told_fault_in or_else refuse_if
  told-even r e h = rw (eq-eqb (length told % 2) 0 e) h

-- ---- reading
module _ (ids told : List ℕ) (R : Readable ids told) where
  pub told_none : (choices : List ℕ) → choices ≡ replicate 8 0 → ToldTo ids told 0 choices
  unfolding any_below
  told_none choices e =
      subst (λ (z : List ℕ). ToldTo ids told 0 z) (sym e)
      (record {
        within = omega arith;
        long = length-replicate {A = ℕ} 8 0;
        each = λ k h. get_or-replicate 8 k 0 0 h ∙ sym (coded_none (tells_to told 0 k) ids (λ p. refl));
      })

  module _ (m place : ℕ) (mid : List ℕ) (T : ToldTo ids told m mid) (h : m < pairs_of told) (P : PlaceOf ids (right_of told m) place) where
    pub read_low : place < 64
    read_low = omega (arith, R.few, place-low ids (right_of told m) place P (R.right m h))

    known : place < length ids
    known = place-low ids (right_of told m) place P (R.right m h)

    -- one id more
    with-id : (test : ℕ → Bool) → bit_or (coded test ids) (2 ^ place) ≡ coded (λ p. or (eqb (right_of told m) p) (test p)) ids
    with-id test =
        same_bits (length ids) _ _ (or_lt (length ids) _ _ (coded-less test ids) (pow-lt known)) (coded-less _ ids)
        (λ q l.
        bit-or (coded test ids) (2 ^ place) q ∙ ap (λ (z : Bool). or z (bit (2 ^ place) q)) (coded-bit test ids q l)
        ∙ same_bool _ _
        (λ u. ⊎_elim (λ v. or-second _ _ v) (λ v. or-first _ _ (is-id q l (bit-pow-other q place v))) (or_cases _ _ u))
        (λ u. ⊎_elim (λ v. or-second _ _ (at_place q l v)) (λ v. or-first _ _ v) (or_cases _ _ u))
        ∙ sym (coded-bit (λ p. or (eqb (right_of told m) p) (test p)) ids q l))
      where
        is-id : (q : ℕ) → q < length ids → q ≡ place → eqb (right_of told m) (get_or ids q 0) ≡ true
        is-id q l e = eq-eqb _ _ (sym (P.found known) ∙ ap (λ (z : ℕ). get_or ids z 0) (sym e))

        at_place : (q : ℕ) → q < length ids → eqb (right_of told m) (get_or ids q 0) ≡ true → bit (2 ^ place) q ≡ true
        at_place q l u =
            let e : q ≡ place = R.distinct q place l known (sym (eqb-true _ _ u) ∙ sym (P.found known)) in
            subst (λ (z : ℕ). bit (2 ^ place) z ≡ true) (sym e) (bit-pow place)

    abbrev after : List ℕ
    after = set mid (left_of told m) (bit_or (get_or mid (left_of told m) 0) (1 * 2 ^ place % 18446744073709551616))

    step : (k p : ℕ) → tells_to told (m + 1) k p ≡ or (both (eqb (left_of told m) k) (eqb (right_of told m) p)) (tells_to told m k p)
    unfolding any_below
    step k p = ap (λ (z : ℕ). tells_to told z k p) (add-one m)

    pub told_more : ToldTo ids told (m + 1) after
    told_more =
        record {
          within = omega arith;
          long = length-set mid _ _ ∙ T.long;
          each = λ k l. ⊎_elim (same k l) (other k l) (eq-or-ne k (left_of told m));
        }
      where
        same : (k : ℕ) → k < 8 → k ≡ left_of told m → get_or after k 0 ≡ coded (tells_to told (m + 1) k) ids
        same k l e =
            ap (λ (z : ℕ). get_or after z 0) e ∙ get_or-set_same mid (left_of told m) _ 0 (omega (arith, T.long, R.left m h))
            ∙ ap₂ bit_or (T.each (left_of told m) (R.left m h)) (shifted place read_low) ∙ with-id (tells_to told m (left_of told m))
            ∙ coded-same _ _ ids
            (λ p.
            ap (λ (z : Bool). or z (tells_to told m (left_of told m) p)) (sym (both-skip _ _ (eq-eqb (left_of told m) (left_of told m) refl)))
            ∙ sym (step (left_of told m) p) ∙ ap (λ (z : ℕ). tells_to told (m + 1) z p) (sym e))

        other : (k : ℕ) → k < 8 → (k ≡ left_of told m → ⊥) → get_or after k 0 ≡ coded (tells_to told (m + 1) k) ids
        other k l n =
            get_or-set_other mid (left_of told m) k _ 0 n ∙ T.each k l
            ∙ coded-same _ _ ids (λ p. sym (step k p ∙ or-skip _ _ (both-none _ _ (ne_eqb (left_of told m) k (λ e. n (sym e))))))

  pub told-done : (m : ℕ) (choices : List ℕ) → pairs_of told ≤ m → ToldTo ids told m choices → ToldChoices ids told choices
  unfolding tells
  told-done m choices h T =
      let e : m ≡ pairs_of told = omega (arith, T.within) in
      record { long = T.long; each = λ k l. T.each k l ∙ ap (λ (z : ℕ). coded (tells_to told z k) ids) e }
