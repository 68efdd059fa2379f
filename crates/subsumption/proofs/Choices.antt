-- The loops over a variable's chosen atoms.
use Prim.Native.Nat.{ℕ, zero, suc, ◌+◌, ◌*◌, ◌-◌, ◌/◌, ◌%◌, ◌^◌, ◌<◌, ◌≤◌}
use mathlib.Core.Path.{◌≡◌, refl, ap, sym, ◌∙◌, subst}
use mathlib.Core.List.{List, [], ◌∷◌, Memᴰ}
use mathlib.Core.Bool.{Bool, true, false, ◌||◌}
use mathlib.Core.Logic.{◌⊎◌, inl, inr, ⊎_elim}
use native.Mathlib.Omega.{arith}
use native.Mathlib.Nat.{add-zero}
use lib.ListN.{length, get_or}
use lib.Dec.{eqb}
use lib.Bits.{bit_and}
use borrow.Author.Tests.{eqb-true, eqb-false, eq-eqb}
use Rattle.subsumption.specs.Atoms.{bit, pick}
use Rattle.subsumption.specs.Inner.Columns.{has, slack, Takes, InThree, Common}
use Rattle.subsumption.proofs.Bools.{both_true, both-intro}
use Rattle.subsumption.proofs.Bits.{zero_bit, bit-ones, bit-and}
use Rattle.subsumption.proofs.Picks.{ChosenBelow, picked-at, at-picked}
use Rattle.subsumption.proofs.Columns.{any-true, any_false, not-both, falls, takes-as}

picked-bit : (choice q : ℕ) → (choice / 2 ^ q % 2 ≡ 0 → ⊥) → bit choice q ≡ true
unfolding bit
picked-bit choice q ne = eq-eqb (choice / 2 ^ q % 2) 1 (omega arith)

last-or-before : (q n : ℕ) → q < n + 1 → (q < n) ⊎ (q ≡ n)
last-or-before q n h = go (eqb q n) refl
  where
    go : (t : Bool) → eqb q n ≡ t → (q < n) ⊎ (q ≡ n)
    go true p = inr (eqb-true q n p)
    go false p = inl (omega (arith, eqb-false q n p))

module _ (atoms : List ℕ) (choice : ℕ) (columns : List ℕ) (part : ℕ) where
  pub common-none : Common 0 atoms choice columns part (2 ^ 64 - 1)
  common-none = record { only = λ k q h e l p. absurd (omega arith); every = λ k h f. bit-ones k h }

  pub common-skip : (q word : ℕ) → Common q atoms choice columns part word → choice / 2 ^ q % 2 ≡ 0 → Common (q + 1) atoms choice columns part word
  common-skip q word c e =
      record {
        only =
            λ k m h b l p.
            ⊎_elim (λ u. c.only k m h b u p) (λ u. absurd (zero_bit choice q e (subst (λ (x : ℕ). bit choice x ≡ true) u p)))
            (last-or-before m q l);
        every = λ k h f. c.every k h (λ m l p. f m (omega arith) p);
      }

  pub common-more :
      (q word : ℕ) → Common q atoms choice columns part word → (choice / 2 ^ q % 2 ≡ 0 → ⊥)
      → Common (q + 1) atoms choice columns part (bit_and word (get_or columns (get_or atoms q 0 * 3 + part) 0))
  common-more q word c ne =
      record {
        only =
            λ k m h b l p.
            let s : (bit word k ≡ true) × (bit (get_or columns (get_or atoms q 0 * 3 + part) 0) k ≡ true)
            = both_true _ _ (sym (bit-and word (get_or columns (get_or atoms q 0 * 3 + part) 0) k) ∙ b) in
            ⊎_elim (λ u. c.only k m h s.0 u p)
            (λ u. subst (λ (x : ℕ). bit (get_or columns (get_or atoms x 0 * 3 + part) 0) k ≡ true) (sym u) s.1)
            (last-or-before m q l);
        every =
            λ k h f.
            bit-and word (get_or columns (get_or atoms q 0 * 3 + part) 0) k
            ∙ both-intro _ _ (c.every k h (λ m l p. f m (omega arith) p)) (f q (omega arith) (picked-bit choice q ne));
      }

  pub common-done : (q word : ℕ) → q ≤ length atoms → length atoms ≤ q → Common q atoms choice columns part word → Common (length atoms) atoms choice columns part word
  common-done q word h l c = subst (λ (n : ℕ). Common n atoms choice columns part word) (omega arith) c

-- the first word is at the column's start
pub common-more-first :
    (atoms : List ℕ) (choice : ℕ) (columns : List ℕ) (q word : ℕ) → Common q atoms choice columns 0 word → (choice / 2 ^ q % 2 ≡ 0 → ⊥)
    → Common (q + 1) atoms choice columns 0 (bit_and word (get_or columns (get_or atoms q 0 * 3) 0))
common-more-first atoms choice columns q word c ne =
    subst (λ (z : ℕ). Common (q + 1) atoms choice columns 0 (bit_and word (get_or columns z 0))) (add-zero (get_or atoms q 0 * 3)) (common-more atoms choice columns 0 q word c ne)

-- the three words together
module _ (atoms : List ℕ) (choice : ℕ) (columns : List ℕ) (first second third : ℕ)
    (A : Common (length atoms) atoms choice columns 0 first)
    (B : Common (length atoms) atoms choice columns 1 second)
    (C : Common (length atoms) atoms choice columns 2 third) where
  word-common : (q : ℕ) → q < 3 → Common (length atoms) atoms choice columns q (get_or (first ∷ second ∷ third ∷ []) q 0)
  word-common zero h = A
  word-common (suc zero) h = B
  word-common (suc (suc zero)) h = C
  word-common (suc (suc (suc q))) h = absurd (omega arith)

  gathered-all : (i : ℕ) → i < 192 → InThree first second third i → (p : ℕ) → Memᴰ p (pick atoms choice) → has columns i p ≡ true
  unfolding has
  gathered-all i h u p m =
      let c : ChosenBelow (length atoms) atoms choice p = at-picked atoms choice p m in
      subst (λ (x : ℕ). bit (get_or columns (x * 3 + i / 64) 0) (i % 64) ≡ true) c.found
      ((word-common (i / 64) (omega arith)).only (i % 64) c.place (omega arith) u c.before c.picked)

  all-gathered : (i : ℕ) → i < 192 → ((p : ℕ) → Memᴰ p (pick atoms choice) → has columns i p ≡ true) → InThree first second third i
  unfolding has
  all-gathered i h f =
      (word-common (i / 64) (omega arith)).every (i % 64) (omega arith) (λ q l p. f (get_or atoms q 0) (picked-at atoms choice q l p))

  pub gather-takes :
      {after : List ℕ} {to : ℕ → Type 0} {changed : Bool} → Takes columns after to (InThree first second third) changed
      → Takes columns after to (λ i. (p : ℕ) → Memᴰ p (pick atoms choice) → has columns i p ≡ true) changed
  gather-takes t = takes-as t gathered-all all-gathered

-- one column that flows into several
module _ (before : List ℕ) (from : ℕ) where
  pub spread_none : Takes before before (λ j. ⊥) (λ i. has before i from ≡ true) false
  spread_none =
      record {
        long = refl;
        bits = λ i j h e. inl e;
        taken = λ e i j h s u. absurd s;
        quiet = λ e. refl;
        less = λ e. not-both true refl (sym e);
      }

  pub spread-as :
      {after : List ℕ} {to to' add : ℕ → Type 0} {changed : Bool} → Takes before after to add changed
      → ((j : ℕ) → to j → to' j) → ((j : ℕ) → to' j → to j) → Takes before after to' add changed
  spread-as t there back =
      record {
        long = t.long;
        bits = λ i j h e. ⊎_elim (λ u. inl u) (λ u. inr (there j u.0, u.1)) (t.bits i j h e);
        taken = λ e i j h s u. t.taken e i j h (back j s) u;
        quiet = t.quiet;
        less = t.less;
      }

  module _ (mid after : List ℕ) (to : ℕ → Type 0) (x : ℕ) (a b : Bool) (low : from < 192)
      (S : Takes before mid to (λ i. has before i from ≡ true) a)
      (T : Takes mid after (λ j. j ≡ x) (λ i. has mid i from ≡ true) b) where
    source : (i : ℕ) → i < 192 → has mid i from ≡ true → has before i from ≡ true
    source i h e = ⊎_elim (λ u. u) (λ u. u.1) (S.bits i from h e)

    more-bits : (i j : ℕ) → i < 192 → has after i j ≡ true → (has before i j ≡ true) ⊎ ((to j ⊎ (j ≡ x)) × (has before i from ≡ true))
    more-bits i j h e =
        ⊎_elim (λ u. ⊎_elim (λ v. inl v) (λ v. inr (inl v.0, v.1)) (S.bits i j h u)) (λ u. inr (inr u.0, source i h u.1)) (T.bits i j h e)

    more-taken : (a || b) ≡ false → (i j : ℕ) → i < 192 → (to j ⊎ (j ≡ x)) → has before i from ≡ true → has before i j ≡ true
    more-taken e i j h s u =
        let f : (a ≡ false) × (b ≡ false) = any_false a b e in
        let m : mid ≡ before = S.quiet f.0 in
        ⊎_elim (λ v. S.taken f.0 i j h v u)
        (λ v.
        subst (λ (l : List ℕ). has l i j ≡ true) m (T.taken f.1 i j h v (subst (λ (l : List ℕ). has l i from ≡ true) (sym m) u)))
        s

    more-less : (a || b) ≡ true → slack after < slack before
    more-less e =
        let u = falls before mid a S.quiet S.less in
        let v = falls mid after b T.quiet T.less in
        ⊎_elim (λ h. omega (arith, S.less h, u, v)) (λ h. omega (arith, T.less h, u, v)) (any-true a b e)

    pub spread-more : Takes before after (λ j. to j ⊎ (j ≡ x)) (λ i. has before i from ≡ true) (a || b)
    spread-more =
        record {
          long = T.long ∙ S.long;
          bits = more-bits;
          taken = more-taken;
          quiet = λ e. let f : (a ≡ false) × (b ≡ false) = any_false a b e in T.quiet f.1 ∙ S.quiet f.0;
          less = more-less;
        }

-- the loop over the atoms
pub record Spread (q : ℕ) (atoms : List ℕ) (choice : ℕ) (before : List ℕ) (from : ℕ) (after : List ℕ) (changed : Bool) : Type 0 where
  pub within : q ≤ length atoms
  pub long : length after ≡ length before
  pub taken : Takes before after (ChosenBelow q atoms choice) (λ i. has before i from ≡ true) changed

pub spread-first : (atoms : List ℕ) (choice : ℕ) (before : List ℕ) (from : ℕ) → Spread 0 atoms choice before from before false
spread-first atoms choice before from =
    record {
      within = omega arith;
      long = refl;
      taken = spread-as before from (spread_none before from) (λ j s. absurd s) (λ j s. omega (arith, s.before));
    }

module _ (q : ℕ) (atoms : List ℕ) (choice : ℕ) (before : List ℕ) (from : ℕ) (mid : List ℕ) (a : Bool) (inside : q < length atoms)
    (S : Spread q atoms choice before from mid a) where
  wider : (j : ℕ) → ChosenBelow q atoms choice j → ChosenBelow (q + 1) atoms choice j
  wider j c = record { place = c.place; before = omega (arith, c.before); picked = c.picked; found = c.found }

  pub spread-skip : choice / 2 ^ q % 2 ≡ 0 → Spread (q + 1) atoms choice before from mid a
  spread-skip e = record { within = omega arith; long = S.long; taken = spread-as before from S.taken wider narrower }
    where
      narrower : (j : ℕ) → ChosenBelow (q + 1) atoms choice j → ChosenBelow q atoms choice j
      narrower j c =
          ⊎_elim (λ u. record { place = c.place; before = u; picked = c.picked; found = c.found })
          (λ u. absurd (zero_bit choice q e (subst (λ (x : ℕ). bit choice x ≡ true) u c.picked))) (last-or-before c.place q c.before)

  pub spread-turn :
      (after : List ℕ) (b : Bool) → from < 192 → (choice / 2 ^ q % 2 ≡ 0 → ⊥)
      → Takes mid after (λ j. j ≡ get_or atoms q 0) (λ i. has mid i from ≡ true) b → Spread (q + 1) atoms choice before from after (a || b)
  spread-turn after b low ne T =
      record {
        within = omega arith;
        long = T.long ∙ S.long;
        taken = spread-as before from (spread-more before from mid after (ChosenBelow q atoms choice) (get_or atoms q 0) a b low S.taken T) there back;
      }
    where
      there : (j : ℕ) → (ChosenBelow q atoms choice j ⊎ (j ≡ get_or atoms q 0)) → ChosenBelow (q + 1) atoms choice j
      there j s = ⊎_elim (wider j) (λ u. record { place = q; before = omega arith; picked = picked-bit choice q ne; found = sym u }) s

      back : (j : ℕ) → ChosenBelow (q + 1) atoms choice j → (ChosenBelow q atoms choice j ⊎ (j ≡ get_or atoms q 0))
      back j c =
          ⊎_elim (λ u. inl (record { place = c.place; before = u; picked = c.picked; found = c.found }))
          (λ u. inr (sym c.found ∙ ap (λ (x : ℕ). get_or atoms x 0) u)) (last-or-before c.place q c.before)

pub spread-done :
    (q : ℕ) (atoms : List ℕ) (choice : ℕ) (before : List ℕ) (from : ℕ) (after : List ℕ) (changed : Bool)
    → Spread q atoms choice before from after changed → length atoms ≤ q
    → Takes before after (λ p. Memᴰ p (pick atoms choice)) (λ i. has before i from ≡ true) changed
spread-done q atoms choice before from after changed S over = spread-as before from S.taken there back
  where
    there : (j : ℕ) → ChosenBelow q atoms choice j → Memᴰ j (pick atoms choice)
    there j c = subst (λ (x : ℕ). Memᴰ x (pick atoms choice)) c.found (picked-at atoms choice c.place (omega (arith, c.before, S.within)) c.picked)

    back : (j : ℕ) → Memᴰ j (pick atoms choice) → ChosenBelow q atoms choice j
    back j m =
        let c : ChosenBelow (length atoms) atoms choice j = at-picked atoms choice j m in
        record { place = c.place; before = omega (arith, c.before); picked = c.picked; found = c.found }
