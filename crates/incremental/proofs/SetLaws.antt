-- Sets of ids: three words come in; the next id of a line that is not in a set.
use Prim.Native.Nat.{ℕ, zero, suc, ◌+◌, ◌*◌, ◌-◌, ◌/◌, ◌%◌, ◌^◌, ◌<◌, ◌≤◌}
use mathlib.Core.Path.{◌≡◌, refl, ap, sym, ◌∙◌, subst}
use mathlib.Core.List.{List, [], ◌∷◌}
use mathlib.Core.Bool.{Bool, true, false, not, false≢true}
use mathlib.Core.Logic.{◌⊎◌, inl, inr, ⊎_elim}
use native.Mathlib.Omega.{arith}
use lib.ListN.{length, get_or, set, length-set}
use lib.Seq.{get_or-set_same, get_or-set_other}
use lib.Bits.{bit_and, bit_or, bit_xor, or_lt, xor_lt}
use lib.Pow.{shr_le}
use lib.Count.{count_trailing_zeros}
use Rattle.subsumption.specs.Tables.{both}
use Rattle.subsumption.specs.Atoms.{bit}
use Rattle.subsumption.proofs.Bools.{both_true, le-or-lt}
use Rattle.subsumption.proofs.Bits.{bit-or-cases, bit-shr, bit_past}
use Rattle.subsumption.proofs.Columns.{not-both}
use Rattle.square.specs.Inner.Square.{on_line, in_row}
use Rattle.incremental.specs.Inner.Marking.{InThree, Holding}
use Rattle.incremental.specs.Inner.Including.{is_in, Covering, NextOpen}
use Rattle.square.proofs.BitLaws.{lacking, Lowest, lowest, no_bits}
use Rattle.square.proofs.SetLaws.{line-three}

-- ---- three words
module _ (before : List ℕ) (long : length before ≡ 3) (first second third : ℕ) where
  abbrev one : List ℕ
  one = set before 0 (bit_or (get_or before 0 0) first)

  abbrev two : List ℕ
  two = set one 1 (bit_or (get_or one 1 0) second)

  abbrev three : List ℕ
  three = set two 2 (bit_or (get_or two 2 0) third)

  three-long : length three ≡ 3
  three-long = length-set two 2 _ ∙ length-set one 1 _ ∙ length-set before 0 _ ∙ long

  joined : (w : ℕ) → w < 3 → get_or three w 0 ≡ bit_or (get_or before w 0) (get_or (first ∷ second ∷ third ∷ []) w 0)
  joined zero h =
      get_or-set_other two 2 0 _ 0 (λ e. omega arith) ∙ get_or-set_other one 1 0 _ 0 (λ e. omega arith) ∙ get_or-set_same before 0 _ 0 (omega arith)
  joined (suc zero) h =
      get_or-set_other two 2 1 _ 0 (λ e. omega arith) ∙ get_or-set_same one 1 _ 0 (omega (arith, length-set before 0 (bit_or (get_or before 0 0) first)))
      ∙ ap (λ (z : ℕ). bit_or z second) (get_or-set_other before 0 1 _ 0 (λ e. omega arith))
  joined (suc (suc zero)) h =
      get_or-set_same two 2 _ 0 (omega (arith, length-set one 1 (bit_or (get_or one 1 0) second), length-set before 0 (bit_or (get_or before 0 0) first)))
      ∙ ap (λ (z : ℕ). bit_or z third) (get_or-set_other one 1 2 _ 0 (λ e. omega arith) ∙ get_or-set_other before 0 2 _ 0 (λ e. omega arith))
  joined (suc (suc (suc w))) h = absurd (omega arith)

  joined-bits : (y : ℕ) → y < 192 → is_in three y ≡ true → (is_in before y ≡ true) ⊎ InThree first second third y
  unfolding on_line
  joined-bits y l u =
      bit-or-cases (get_or before (0 + y / 64) 0) (get_or (first ∷ second ∷ third ∷ []) (0 + y / 64) 0) (y % 64)
      (ap (λ (w : ℕ). bit w (y % 64)) (sym (joined (0 + y / 64) (omega arith))) ∙ u)

module _ (square done : List ℕ) (k i : ℕ) (before : List ℕ) (long : length before ≡ 3) where
  pub covering-none : Covering square done k i before before
  covering-none = record { long = long; bits = λ y l u. inl u }

  pub covering :
      (b : Bool) → is_in done k ≡ true → Holding square (i * 3) (get_or square (k * 3) 0) (get_or square (k * 3 + 1) 0) (get_or square (k * 3 + 2) 0) b → b ≡ true
      → Covering square done k i before (three before long (get_or square (k * 3) 0) (get_or square (k * 3 + 1) 0) (get_or square (k * 3 + 2) 0))
  covering b d h e =
      record {
        long = three-long before long _ _ _;
        bits =
            λ y l u.
            ⊎_elim (λ v. inl v)
            (λ v. inr (d, sym (line-three square (k * 3) y l) ∙ v, λ j m w. h e j m (line-three square (k * 3) j m ∙ w)))
            (joined-bits before long _ _ _ y l u);
      }

-- ---- the next id
module _ (square covered : List ℕ) (i from : ℕ) where
  abbrev pub open_word : ℕ → ℕ
  open_word k = bit_xor (bit_or (get_or covered k 0) (get_or square (i * 3 + k) 0)) (get_or covered k 0)

  pub record OpenTo (k low : ℕ) : Type 0 where
    pub short : low < 64
    pub start : from ≤ k * 64 + low
    pub within : k * 64 + low ≤ 192
    pub none : (y : ℕ) → from ≤ y → y < k * 64 + low → in_row square i y ≡ true → is_in covered y ≡ true

  was : (a o : Bool) → a ≡ true → both a (not o) ≡ false → o ≡ true
  unfolding both
  was true true e f = refl
  was true false e f = sym f
  was false o e f = not-both true refl (sym e)

  -- an id of the word k at a place where the open word has no one
  closed_at : (k y : ℕ) → y / 64 ≡ k → bit (open_word k) (y % 64) ≡ false → in_row square i y ≡ true → is_in covered y ≡ true
  unfolding on_line
  closed_at k y e f u =
      subst (λ (z : ℕ). bit (get_or covered z 0) (y % 64) ≡ true) whole
      (was (bit (get_or square (i * 3 + k) 0) (y % 64)) _ (subst (λ (z : ℕ). bit (get_or square (i * 3 + z) 0) (y % 64) ≡ true) e u)
      (sym (lacking (get_or covered k 0) (get_or square (i * 3 + k) 0) (y % 64)) ∙ f))
    where
      whole : k ≡ 0 + y / 64
      whole = omega arith

  at_place : (k low d : ℕ) → bit (open_word k / 2 ^ low) d ≡ bit (open_word k) (low + d)
  at_place k low d = bit-shr (open_word k) low d

  pub open_more : (k low : ℕ) → OpenTo k low → k < 3 → open_word k / 2 ^ low ≡ 0 → OpenTo (k + 1) 0
  open_more k low O h e =
      record {
        short = omega arith;
        start = omega (arith, O.start, O.short);
        within = omega arith;
        none = λ y l m u. ⊎_elim (λ v. past y v m u) (λ v. O.none y l v u) (le-or-lt (k * 64 + low) y);
      }
    where
      past : (y : ℕ) → k * 64 + low ≤ y → y < (k + 1) * 64 + 0 → in_row square i y ≡ true → is_in covered y ≡ true
      past y l m u =
          let p : low + (y % 64 - low) ≡ y % 64 = omega (arith, O.short) in
          closed_at k y (omega arith)
          (ap (bit (open_word k)) (sym p) ∙ sym (at_place k low (y % 64 - low)) ∙ ap (λ (z : ℕ). bit z (y % 64 - low)) e ∙ no_bits (y % 64 - low)) u

  module _ (k low : ℕ) (O : OpenTo k low) (h : k < 3) (some : open_word k / 2 ^ low ≡ 0 → ⊥) (a : get_or covered k 0 < 2 ^ 64) (b : get_or square (i * 3 + k) 0 < 2 ^ 64) where
    small : open_word k < 2 ^ 64
    small = xor_lt 64 _ _ (or_lt 64 _ _ a b) a

    next : Lowest 64 (open_word k / 2 ^ low) (count_trailing_zeros 64 (open_word k / 2 ^ low)) (bit_and (open_word k / 2 ^ low) (open_word k / 2 ^ low - 1))
    next = lowest 64 _ (omega arith) (omega (arith, small, shr_le (open_word k) low))

    is_set : bit (open_word k) (low + count_trailing_zeros 64 (open_word k / 2 ^ low)) ≡ true
    is_set = sym (at_place k low _) ∙ next.here

    pub open-low : low + count_trailing_zeros 64 (open_word k / 2 ^ low) < 64
    open-low =
        ⊎_elim (λ v. absurd (false≢true (sym (bit_past (open_word k) 64 _ small v) ∙ is_set))) (λ v. v) (le-or-lt 64 (low + count_trailing_zeros 64 (open_word k / 2 ^ low)))

    pub open-found : NextOpen square covered i from (k * 64 + low + count_trailing_zeros 64 (open_word k / 2 ^ low))
    unfolding on_line
    open-found =
        record {
          low = omega (arith, O.start);
          high = omega (arith, open-low);
          none = λ y l m u. ⊎_elim (λ v. under y v m u) (λ v. O.none y l v u) (le-or-lt (k * 64 + low) y);
          found = λ _. marked;
        }
      where
        under : (y : ℕ) → k * 64 + low ≤ y → y < k * 64 + low + count_trailing_zeros 64 (open_word k / 2 ^ low) → in_row square i y ≡ true → is_in covered y ≡ true
        under y l m u =
            let g = open-low in
            let p : low + (y % 64 - low) ≡ y % 64 = omega (arith, O.short) in
            let d : y % 64 - low < count_trailing_zeros 64 (open_word k / 2 ^ low) = omega (arith, O.short) in
            closed_at k y (omega arith)
            (ap (bit (open_word k)) (sym p) ∙ sym (at_place k low (y % 64 - low)) ∙ next.under _ d) u

        marked : bit (get_or square (i * 3 + (k * 64 + low + count_trailing_zeros 64 (open_word k / 2 ^ low)) / 64) 0) ((k * 64 + low + count_trailing_zeros 64 (open_word k / 2 ^ low)) % 64) ≡ true
        marked =
            let g = open-low in
            let p : (k * 64 + low + count_trailing_zeros 64 (open_word k / 2 ^ low)) / 64 ≡ k = omega arith in
            let q : (k * 64 + low + count_trailing_zeros 64 (open_word k / 2 ^ low)) % 64 ≡ low + count_trailing_zeros 64 (open_word k / 2 ^ low) = omega arith in
            ap (λ (z : ℕ). bit (get_or square (i * 3 + z) 0) ((k * 64 + low + count_trailing_zeros 64 (open_word k / 2 ^ low)) % 64)) p
            ∙ ap (bit (get_or square (i * 3 + k) 0)) q
            ∙ (both_true _ _ (sym (lacking (get_or covered k 0) (get_or square (i * 3 + k) 0) (low + count_trailing_zeros 64 (open_word k / 2 ^ low))) ∙ is_set)).0

  pub open_done : (k low : ℕ) → OpenTo k low → 3 ≤ k → NextOpen square covered i from 192
  open_done k low O h =
      record {
        low = omega (arith, O.start, O.within);
        high = omega arith;
        none = λ y l m u. O.none y l (omega arith) u;
        found = λ l. absurd (omega arith);
      }
