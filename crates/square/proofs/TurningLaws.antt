-- Transposing: one exchange of a digit, the six of them, and the blocks of the square.
use Prim.Native.Nat.{ℕ, zero, suc, ◌+◌, ◌*◌, ◌-◌, ◌/◌, ◌%◌, ◌^◌, ◌<◌, ◌≤◌}
use mathlib.Core.Path.{◌≡◌, refl, ap, ap₂, sym, ◌∙◌, subst}
use mathlib.Core.List.{List}
use mathlib.Core.Bool.{Bool, true, false, not}
use mathlib.Core.Logic.{⊎_elim}
use native.Mathlib.Omega.{arith}
use lib.Dec.{eqb}
use lib.ListN.{length, get_or, set, length-set}
use lib.Seq.{get_or-set_same, get_or-set_other}
use lib.Bits.{bit_and, bit_or}
use borrow.Author.Tests.{eq-eqb, ne_eqb}
use Rattle.subsumption.specs.Tables.{or, both}
use Rattle.subsumption.specs.Atoms.{bit}
use Rattle.subsumption.proofs.Bools.{both_true, both_first, both-second, or-skip, eq-or-ne, le-or-lt, last-cases}
use Rattle.subsumption.proofs.Bits.{bit-and, bit-or, bit-shr, bit-shl, bit-shl-low}
use Rattle.square.specs.Inner.Turning.{first_of, pair_of, swapped, Exchange, Staged, Turned, BlockOf, BlockSet, Transposed}

or-none : (a b : Bool) → b ≡ false → or a b ≡ a
unfolding or
or-none true b e = refl
or-none false b e = e

-- ---- the two words of a pair after an exchange
abbrev pub first_word : ℕ → ℕ → ℕ → ℕ → ℕ
first_word by low a b = bit_or (bit_and a low) (bit_and b low * 2 ^ by % 18446744073709551616)

abbrev pub second_word : ℕ → ℕ → ℕ → ℕ → ℕ → ℕ
second_word by low high a b = bit_or (bit_and (a / 2 ^ by) low) (bit_and b high)

module _ (s by low high : ℕ) (E : Exchange s by low high) (a b c : ℕ) (l : c < 64) where
  is-low : c / by % 2 ≡ 0 → bit low c ≡ true
  is-low e = E.low_bit c l ∙ eq-eqb _ 0 e

  not_low : (c / by % 2 ≡ 0 → ⊥) → bit low c ≡ false
  not_low n = E.low_bit c l ∙ ne_eqb _ 0 n

  first-low : c / by % 2 ≡ 0 → bit (first_word by low a b) c ≡ bit a c
  first-low e =
      bit-or (bit_and a low) (bit_and b low * 2 ^ by % 18446744073709551616) c
      ∙ or-none _ _ (⊎_elim past under (le-or-lt by c)) ∙ bit-and a low c ∙ both_first _ _ (is-low e)
    where
      past : by ≤ c → bit (bit_and b low * 2 ^ by % 18446744073709551616) c ≡ false
      past h =
          bit-shl (bit_and b low) by c h l ∙ bit-and b low (c - by)
          ∙ both-second _ _ (E.low_bit (c - by) (omega arith) ∙ ne_eqb _ 0 (E.odd-down c l e h))

      under : c < by → bit (bit_and b low * 2 ^ by % 18446744073709551616) c ≡ false
      under h = bit-shl-low (bit_and b low) by c h l

  first-high : (c / by % 2 ≡ 0 → ⊥) → bit (first_word by low a b) c ≡ bit b (c - by)
  first-high n =
      bit-or (bit_and a low) (bit_and b low * 2 ^ by % 18446744073709551616) c ∙ or-skip _ _ (bit-and a low c ∙ both-second _ _ (not_low n))
      ∙ bit-shl (bit_and b low) by c (E.down c l n).0 l ∙ bit-and b low (c - by)
      ∙ both_first _ _ (E.low_bit (c - by) (omega arith) ∙ eq-eqb _ 0 (E.down c l n).1)

  second-low : c / by % 2 ≡ 0 → bit (second_word by low high a b) c ≡ bit a (by + c)
  second-low e =
      bit-or (bit_and (a / 2 ^ by) low) (bit_and b high) c
      ∙ or-none _ _ (bit-and b high c ∙ both-second _ _ (E.high_bit c l ∙ ap not (eq-eqb _ 0 e)))
      ∙ bit-and (a / 2 ^ by) low c ∙ both_first _ _ (is-low e) ∙ bit-shr a by c

  second-high : (c / by % 2 ≡ 0 → ⊥) → bit (second_word by low high a b) c ≡ bit b c
  second-high n =
      bit-or (bit_and (a / 2 ^ by) low) (bit_and b high) c ∙ or-skip _ _ (bit-and (a / 2 ^ by) low c ∙ both-second _ _ (not_low n))
      ∙ bit-and b high c ∙ both_first _ _ (E.high_bit c l ∙ ap not (ne_eqb _ 0 n))

-- ---- all pairs
pub record StagedTo (by low high : ℕ) (before : List ℕ) (p : ℕ) (after : List ℕ) : Type 0 where
  pub within : p ≤ 32
  pub long : length after ≡ 64
  pub firsts : (x : ℕ) → x < 64 → pair_of by x < p → x / by % 2 ≡ 0 → get_or after x 0 ≡ first_word by low (get_or before x 0) (get_or before (x + by) 0)
  pub seconds : (x y : ℕ) → x < 64 → pair_of by x < p → (x / by % 2 ≡ 0 → ⊥) → y + by ≡ x → get_or after x 0 ≡ second_word by low high (get_or before y 0) (get_or before x 0)
  pub rest : (x : ℕ) → x < 64 → p ≤ pair_of by x → get_or after x 0 ≡ get_or before x 0

module _ (s by low high : ℕ) (E : Exchange s by low high) (before : List ℕ) where
  module _ (p : ℕ) (mid : List ℕ) (T : StagedTo by low high before p mid) (inside : p < 32) (k : ℕ) (is : k ≡ first_of by p) where
    abbrev one : List ℕ
    one = set mid k (first_word by low (get_or mid k 0) (get_or mid (k + by) 0))

    abbrev two : List ℕ
    two = set one (k + by) (second_word by low high (get_or mid k 0) (get_or mid (k + by) 0))

    k-low : k + by < 64
    k-low = subst (λ (z : ℕ). z + by < 64) (sym is) (E.inside p inside)

    k-pair : pair_of by k ≡ p
    k-pair = subst (λ (z : ℕ). pair_of by z ≡ p) (sym is) (E.first-pair p inside)

    next-pair : pair_of by (k + by) ≡ p
    next-pair = subst (λ (z : ℕ). pair_of by (z + by) ≡ p) (sym is) (E.second-pair p inside)

    k-digit : k / by % 2 ≡ 0
    k-digit = subst (λ (z : ℕ). z / by % 2 ≡ 0) (sym is) (E.first-digit p inside)

    next-digit : (k + by) / by % 2 ≡ 1
    next-digit = subst (λ (z : ℕ). (z + by) / by % 2 ≡ 1) (sym is) (E.second-digit p inside)

    apart : k ≡ k + by → ⊥
    apart e = omega (arith, k-digit, next-digit, ap (λ (z : ℕ). z / by % 2) e)

    at-k : get_or two k 0 ≡ first_word by low (get_or before k 0) (get_or before (k + by) 0)
    at-k =
        get_or-set_other one (k + by) k _ 0 apart ∙ get_or-set_same mid k _ 0 (omega (arith, k-low, T.long))
        ∙ ap₂ (first_word by low) (T.rest k (omega (arith, k-low)) (omega (arith, k-pair))) (T.rest (k + by) k-low (omega (arith, next-pair)))

    at_next : get_or two (k + by) 0 ≡ second_word by low high (get_or before k 0) (get_or before (k + by) 0)
    at_next =
        get_or-set_same one (k + by) _ 0 (omega (arith, k-low, T.long, length-set mid k (first_word by low (get_or mid k 0) (get_or mid (k + by) 0))))
        ∙ ap₂ (second_word by low high) (T.rest k (omega (arith, k-low)) (omega (arith, k-pair))) (T.rest (k + by) k-low (omega (arith, next-pair)))

    other : (x : ℕ) → (pair_of by x ≡ p → ⊥) → get_or two x 0 ≡ get_or mid x 0
    other x n =
        get_or-set_other one (k + by) x _ 0 (λ e. n (ap (pair_of by) e ∙ next-pair)) ∙ get_or-set_other mid k x _ 0 (λ e. n (ap (pair_of by) e ∙ k-pair))

    pub staged-more : StagedTo by low high before (p + 1) two
    staged-more =
        record {
          within = omega arith;
          long = length-set one (k + by) _ ∙ length-set mid k _ ∙ T.long;
          firsts =
              λ x l h e.
              ⊎_elim
              (λ (u : pair_of by x ≡ p).
              let q : x ≡ k = E.is-first x l e ∙ ap (first_of by) u ∙ sym is in
              subst (λ (z : ℕ). get_or two z 0 ≡ first_word by low (get_or before z 0) (get_or before (z + by) 0)) (sym q) at-k)
              (λ n. other x n ∙ T.firsts x l (omega (arith, n)) e) (eq-or-ne (pair_of by x) p);
          seconds =
              λ x y l h e f.
              ⊎_elim
              (λ (u : pair_of by x ≡ p).
              let q : x ≡ k + by = E.is-second x l e ∙ ap (λ (z : ℕ). first_of by z + by) u ∙ ap (λ (z : ℕ). z + by) (sym is) in
              let r : y ≡ k = omega arith in
              subst (λ (z : ℕ). get_or two x 0 ≡ second_word by low high (get_or before z 0) (get_or before x 0)) (sym r)
              (subst (λ (z : ℕ). get_or two z 0 ≡ second_word by low high (get_or before k 0) (get_or before z 0)) (sym q) at_next))
              (λ n. other x n ∙ T.seconds x y l (omega (arith, n)) e f) (eq-or-ne (pair_of by x) p);
          rest = λ x l h. other x (λ e. omega arith) ∙ T.rest x l (omega arith);
        }

  module _ (p : ℕ) (after : List ℕ) (T : StagedTo by low high before p after) (over : 32 ≤ p) where
    staged-bits : (x c : ℕ) → x < 64 → c < 64 → bit (get_or after x 0) c ≡ bit (get_or before (swapped by x c) 0) (swapped by c x)
    staged-bits x c l m = ⊎_elim lows highs (eq-or-ne (x / by % 2) 0)
      where
        done : pair_of by x < p
        done = omega (arith, E.pairs x l)

        to : (y d : ℕ) → swapped by x c ≡ y → swapped by c x ≡ d → bit (get_or before y 0) d ≡ bit (get_or before (swapped by x c) 0) (swapped by c x)
        to y d e f = ap₂ (λ (u v : ℕ). bit (get_or before u 0) v) (sym e) (sym f)

        lows : x / by % 2 ≡ 0 → bit (get_or after x 0) c ≡ bit (get_or before (swapped by x c) 0) (swapped by c x)
        lows e =
            ap (λ (z : ℕ). bit z c) (T.firsts x l done e)
            ∙ ⊎_elim
            (λ (f : c / by % 2 ≡ 0). first-low s by low high E (get_or before x 0) (get_or before (x + by) 0) c m f ∙ to x c (E.same_low x c e f) (E.same_low c x f e))
            (λ n.
            let q = E.back c x n e in
            let r : c - by ≡ swapped by c x = omega arith in
            first-high s by low high E (get_or before x 0) (get_or before (x + by) 0) c m n ∙ to (x + by) (c - by) (E.up x c e n) (sym r))
            (eq-or-ne (c / by % 2) 0)

        highs : (x / by % 2 ≡ 0 → ⊥) → bit (get_or after x 0) c ≡ bit (get_or before (swapped by x c) 0) (swapped by c x)
        highs n =
            ⊎_elim
            (λ (f : c / by % 2 ≡ 0).
            let q = E.back x c n f in
            let r : by + c ≡ swapped by c x = omega (arith, E.up c x f n) in
            ap (λ (z : ℕ). bit z c) (T.seconds x (swapped by x c) l done n q) ∙ second-low s by low high E (get_or before (swapped by x c) 0) (get_or before x 0) c m f ∙ ap (bit (get_or before (swapped by x c) 0)) r)
            (λ g.
            let q = E.is-second x l n in
            ap (λ (z : ℕ). bit z c) (T.seconds x (first_of by (pair_of by x)) l done n (sym q)) ∙ second-high s by low high E (get_or before (first_of by (pair_of by x)) 0) (get_or before x 0) c m g
            ∙ to x c (E.same-high x c n g) (E.same-high c x g n)) (eq-or-ne (c / by % 2) 0)

    pub staged_done : Staged by before after
    staged_done = record { long = T.long; bits = staged-bits }

-- ---- the masks, over all 64 places
bools_agree : Bool → Bool → Bool
bools_agree true b = b
bools_agree false b = not b

same_true : (a b : Bool) → bools_agree a b ≡ true → a ≡ b
unfolding bools_agree
same_true true b e = sym e
same_true false true e = e
same_true false false e = refl

all_below : ℕ → (ℕ → Bool) → Bool
all_below zero test = true
all_below (suc n) test = both (test n) (all_below n test)

all-elim : (n : ℕ) (test : ℕ → Bool) → all_below n test ≡ true → (m : ℕ) → m < n → test m ≡ true
unfolding all_below
all-elim zero test h m l = absurd (omega arith)
all-elim (suc n) test h m l =
    let u = both_true (test n) (all_below n test) h in
    ⊎_elim (λ (e : m ≡ n). ap test e ∙ u.0) (λ k. all-elim n test u.1 m k) (last-cases m n l)

low_mask_at : ℕ → ℕ → ℕ → Bool
low_mask_at by low c = bools_agree (bit low c) (eqb (c / by % 2) 0)

high_mask_at : ℕ → ℕ → ℕ → Bool
high_mask_at by high c = bools_agree (bit high c) (not (eqb (c / by % 2) 0))

module _ (by low : ℕ) where
  low_mask : all_below 64 (low_mask_at by low) ≡ true → (c : ℕ) → c < 64 → bit low c ≡ eqb (c / by % 2) 0
  unfolding low_mask_at
  low_mask e c l = same_true _ _ (all-elim 64 (low_mask_at by low) e c l)

  high-mask : all_below 64 (high_mask_at by low) ≡ true → (c : ℕ) → c < 64 → bit low c ≡ not (eqb (c / by % 2) 0)
  unfolding high_mask_at
  high-mask e c l = same_true _ _ (all-elim 64 (high_mask_at by low) e c l)

pub exchange-32 : Exchange 5 32 0x00000000ffffffff 0xffffffff00000000
unfolding all_below low_mask_at high_mask_at bools_agree both bit
exchange-32 =
    record {
      short = omega arith;
      small = omega arith;
      place = λ p h. omega arith;
      inside = λ p h. omega arith;
      first-pair = λ p h. omega arith;
      second-pair = λ p h. omega arith;
      first-digit = λ p h. omega arith;
      second-digit = λ p h. omega arith;
      pairs = λ x h. omega arith;
      is-first = λ x h e. omega arith;
      is-second = λ x h e. omega arith;
      low_bit = low_mask 32 0x00000000ffffffff refl;
      high_bit = high-mask 32 0xffffffff00000000 refl;
      down = λ c h e. (omega arith, omega arith);
      odd-down = λ c h e l f. omega arith;
      same_low = λ x c e f. omega arith;
      same-high = λ x c e f. omega arith;
      up = λ x c e f. omega arith;
      back = λ x c e f. omega arith;
    }

pub exchange-16 : Exchange 4 16 0x0000ffff0000ffff 0xffff0000ffff0000
unfolding all_below low_mask_at high_mask_at bools_agree both bit
exchange-16 =
    record {
      short = omega arith;
      small = omega arith;
      place = λ p h. omega arith;
      inside = λ p h. omega arith;
      first-pair = λ p h. omega arith;
      second-pair = λ p h. omega arith;
      first-digit = λ p h. omega arith;
      second-digit = λ p h. omega arith;
      pairs = λ x h. omega arith;
      is-first = λ x h e. omega arith;
      is-second = λ x h e. omega arith;
      low_bit = low_mask 16 0x0000ffff0000ffff refl;
      high_bit = high-mask 16 0xffff0000ffff0000 refl;
      down = λ c h e. (omega arith, omega arith);
      odd-down = λ c h e l f. omega arith;
      same_low = λ x c e f. omega arith;
      same-high = λ x c e f. omega arith;
      up = λ x c e f. omega arith;
      back = λ x c e f. omega arith;
    }

pub exchange-8 : Exchange 3 8 0x00ff00ff00ff00ff 0xff00ff00ff00ff00
unfolding all_below low_mask_at high_mask_at bools_agree both bit
exchange-8 =
    record {
      short = omega arith;
      small = omega arith;
      place = λ p h. omega arith;
      inside = λ p h. omega arith;
      first-pair = λ p h. omega arith;
      second-pair = λ p h. omega arith;
      first-digit = λ p h. omega arith;
      second-digit = λ p h. omega arith;
      pairs = λ x h. omega arith;
      is-first = λ x h e. omega arith;
      is-second = λ x h e. omega arith;
      low_bit = low_mask 8 0x00ff00ff00ff00ff refl;
      high_bit = high-mask 8 0xff00ff00ff00ff00 refl;
      down = λ c h e. (omega arith, omega arith);
      odd-down = λ c h e l f. omega arith;
      same_low = λ x c e f. omega arith;
      same-high = λ x c e f. omega arith;
      up = λ x c e f. omega arith;
      back = λ x c e f. omega arith;
    }

pub exchange-4 : Exchange 2 4 0x0f0f0f0f0f0f0f0f 0xf0f0f0f0f0f0f0f0
unfolding all_below low_mask_at high_mask_at bools_agree both bit
exchange-4 =
    record {
      short = omega arith;
      small = omega arith;
      place = λ p h. omega arith;
      inside = λ p h. omega arith;
      first-pair = λ p h. omega arith;
      second-pair = λ p h. omega arith;
      first-digit = λ p h. omega arith;
      second-digit = λ p h. omega arith;
      pairs = λ x h. omega arith;
      is-first = λ x h e. omega arith;
      is-second = λ x h e. omega arith;
      low_bit = low_mask 4 0x0f0f0f0f0f0f0f0f refl;
      high_bit = high-mask 4 0xf0f0f0f0f0f0f0f0 refl;
      down = λ c h e. (omega arith, omega arith);
      odd-down = λ c h e l f. omega arith;
      same_low = λ x c e f. omega arith;
      same-high = λ x c e f. omega arith;
      up = λ x c e f. omega arith;
      back = λ x c e f. omega arith;
    }

pub exchange-2 : Exchange 1 2 0x3333333333333333 0xcccccccccccccccc
unfolding all_below low_mask_at high_mask_at bools_agree both bit
exchange-2 =
    record {
      short = omega arith;
      small = omega arith;
      place = λ p h. omega arith;
      inside = λ p h. omega arith;
      first-pair = λ p h. omega arith;
      second-pair = λ p h. omega arith;
      first-digit = λ p h. omega arith;
      second-digit = λ p h. omega arith;
      pairs = λ x h. omega arith;
      is-first = λ x h e. omega arith;
      is-second = λ x h e. omega arith;
      low_bit = low_mask 2 0x3333333333333333 refl;
      high_bit = high-mask 2 0xcccccccccccccccc refl;
      down = λ c h e. (omega arith, omega arith);
      odd-down = λ c h e l f. omega arith;
      same_low = λ x c e f. omega arith;
      same-high = λ x c e f. omega arith;
      up = λ x c e f. omega arith;
      back = λ x c e f. omega arith;
    }

pub exchange-1 : Exchange 0 1 0x5555555555555555 0xaaaaaaaaaaaaaaaa
unfolding all_below low_mask_at high_mask_at bools_agree both bit
exchange-1 =
    record {
      short = omega arith;
      small = omega arith;
      place = λ p h. omega arith;
      inside = λ p h. omega arith;
      first-pair = λ p h. omega arith;
      second-pair = λ p h. omega arith;
      first-digit = λ p h. omega arith;
      second-digit = λ p h. omega arith;
      pairs = λ x h. omega arith;
      is-first = λ x h e. omega arith;
      is-second = λ x h e. omega arith;
      low_bit = low_mask 1 0x5555555555555555 refl;
      high_bit = high-mask 1 0xaaaaaaaaaaaaaaaa refl;
      down = λ c h e. (omega arith, omega arith);
      odd-down = λ c h e l f. omega arith;
      same_low = λ x c e f. omega arith;
      same-high = λ x c e f. omega arith;
      up = λ x c e f. omega arith;
      back = λ x c e f. omega arith;
    }

-- ---- the six exchanges: after those down to `by`, the higher digits of places and words are exchanged
abbrev mixed : ℕ → ℕ → ℕ → ℕ
mixed by x c = c / by * by + x % by

Mixed : ℕ → List ℕ → List ℕ → Type 0
Mixed by before after = (x c : ℕ) → x < 64 → c < 64 → bit (get_or after x 0) c ≡ bit (get_or before (mixed by x c) 0) (mixed by c x)

mixed-more :
    (by twice : ℕ) (before mid after : List ℕ) → ((x c : ℕ) → x < 64 → c < 64 → swapped by x c < 64)
    → ((x c : ℕ) → swapped by c x / twice ≡ c / twice) → ((x c : ℕ) → swapped by x c % twice ≡ c / by % 2 * by + x % by)
    → ((x c : ℕ) → c / twice * twice + (c / by % 2 * by + x % by) ≡ mixed by x c) → Mixed twice before mid → Staged by mid after → Mixed by before after
unfolding Mixed
mixed-more by twice before mid after low high rest sum M T x c l m =
    T.bits x c l m ∙ M (swapped by x c) (swapped by c x) (low x c l m) (low c x m l) ∙ ap₂ (λ (u v : ℕ). bit (get_or before u 0) v) (same x c) (same c x)
  where
    same : (x c : ℕ) → mixed twice (swapped by x c) (swapped by c x) ≡ mixed by x c
    same x c = ap₂ (λ (u v : ℕ). u * twice + v) (high x c) (rest x c) ∙ sum x c

mixed-none : (before : List ℕ) → Mixed 64 before before
unfolding Mixed
mixed-none before x c l m = ap₂ (λ (u v : ℕ). bit (get_or before u 0) v) (whole x c l m) (whole c x m l)
  where
    whole : (x c : ℕ) → x < 64 → c < 64 → x ≡ mixed 64 x c
    whole x c l m = omega arith

pub turned :
    {before one two three four five after : List ℕ} → Staged 32 before one → Staged 16 one two → Staged 8 two three → Staged 4 three four → Staged 2 four five → Staged 1 five after
    → Turned before after
unfolding Mixed
turned {before} {one} {two} {three} {four} {five} {after} A B C D E F =
    record { long = F.long; bits = λ x c l m. last x c l m ∙ ap₂ (λ (u v : ℕ). bit (get_or before u 0) v) (ends x c) (ends c x) }
  where
    ends : (x c : ℕ) → mixed 1 x c ≡ c
    ends x c = omega arith

    last : Mixed 1 before after
    last =
        mixed-more 1 2 before five after (λ x c l m. omega arith) (λ x c. omega arith) (λ x c. omega arith) (λ x c. omega arith)
        (mixed-more 2 4 before four five (λ x c l m. omega arith) (λ x c. omega arith) (λ x c. omega arith) (λ x c. omega arith)
        (mixed-more 4 8 before three four (λ x c l m. omega arith) (λ x c. omega arith) (λ x c. omega arith) (λ x c. omega arith)
        (mixed-more 8 16 before two three (λ x c l m. omega arith) (λ x c. omega arith) (λ x c. omega arith) (λ x c. omega arith)
        (mixed-more 16 32 before one two (λ x c l m. omega arith) (λ x c. omega arith) (λ x c. omega arith) (λ x c. omega arith)
        (mixed-more 32 64 before before one (λ x c l m. omega arith) (λ x c. omega arith) (λ x c. omega arith) (λ x c. omega arith) (mixed-none before) A) B) C) D) E) F

-- ---- reading and writing a block
pub record ReadTo (square : List ℕ) (a b k : ℕ) (block : List ℕ) : Type 0 where
  pub within : k ≤ 64
  pub long : length block ≡ 64
  pub words : (q : ℕ) → q < k → get_or block q 0 ≡ get_or square ((a * 64 + q) * 3 + b) 0

module _ (square : List ℕ) (a b : ℕ) where
  pub read_first : (block : List ℕ) → length block ≡ 64 → ReadTo square a b 0 block
  read_first block n = record { within = omega arith; long = n; words = λ q h. absurd (omega arith) }

  pub read_more : (k : ℕ) (block : List ℕ) → k < 64 → ReadTo square a b k block → ReadTo square a b (k + 1) (set block k (get_or square ((a * 64 + k) * 3 + b) 0))
  read_more k block h R =
      record {
        within = omega arith;
        long = length-set block k _ ∙ R.long;
        words =
            λ q l.
            ⊎_elim
            (λ (e : q ≡ k).
            subst (λ (z : ℕ). get_or (set block k (get_or square ((a * 64 + k) * 3 + b) 0)) z 0 ≡ get_or square ((a * 64 + z) * 3 + b) 0) (sym e)
            (get_or-set_same block k _ 0 (omega (arith, R.long))))
            (λ v. get_or-set_other block k q _ 0 (λ e. omega arith) ∙ R.words q v) (last-cases q k (omega arith));
      }

  pub read_done : (k : ℕ) (block : List ℕ) → 64 ≤ k → ReadTo square a b k block → BlockOf square a b block
  read_done k block h R = record { long = R.long; words = λ q l. R.words q (omega arith) }

pub record WriteTo (block : List ℕ) (a b : ℕ) (before : List ℕ) (k : ℕ) (after : List ℕ) : Type 0 where
  pub within : k ≤ 64
  pub long : length after ≡ length before
  pub words : (q : ℕ) → q < k → get_or after (576 + (b * 64 + q) * 3 + a) 0 ≡ get_or block q 0
  pub there : (p : ℕ) → ((q : ℕ) → q < 64 → p ≡ 576 + (b * 64 + q) * 3 + a → ⊥) → get_or after p 0 ≡ get_or before p 0

module _ (block : List ℕ) (a b : ℕ) (before : List ℕ) where
  pub write-more :
      (k : ℕ) (mid : List ℕ) → k < 64 → a < 3 → b < 3 → length before ≡ 1152 → WriteTo block a b before k mid
      → WriteTo block a b before (k + 1) (set mid (576 + (b * 64 + k) * 3 + a) (get_or block k 0))
  write-more k mid h la lb n W =
      record {
        within = omega arith;
        long = length-set mid _ _ ∙ W.long;
        words =
            λ q l.
            ⊎_elim
            (λ (e : q ≡ k).
            subst (λ (z : ℕ). get_or (set mid (576 + (b * 64 + k) * 3 + a) (get_or block k 0)) (576 + (b * 64 + z) * 3 + a) 0 ≡ get_or block z 0) (sym e)
            (get_or-set_same mid (576 + (b * 64 + k) * 3 + a) _ 0 (omega (arith, W.long))))
            (λ v. get_or-set_other mid (576 + (b * 64 + k) * 3 + a) (576 + (b * 64 + q) * 3 + a) _ 0 (λ e. omega arith) ∙ W.words q v) (last-cases q k (omega arith));
        there = λ p f. get_or-set_other mid (576 + (b * 64 + k) * 3 + a) p _ 0 (λ e. f k h e) ∙ W.there p f;
      }

  pub write_done : (k : ℕ) (after : List ℕ) → 64 ≤ k → WriteTo block a b before k after → BlockSet block a b before after
  write_done k after h W = record { long = W.long; words = λ q l. W.words q (omega arith); there = W.there }

-- ---- all nine blocks
pub record TurnedTo (before : List ℕ) (n : ℕ) (after : List ℕ) : Type 0 where
  pub within : n ≤ 9
  pub long : length after ≡ 1152
  pub rows : (p : ℕ) → p < 576 → get_or after p 0 ≡ get_or before p 0
  pub blocks :
      (m r c : ℕ) → m < n → r < 64 → c < 64 → bit (get_or after (576 + (m % 3 * 64 + c) * 3 + m / 3) 0) r ≡ bit (get_or before ((m / 3 * 64 + r) * 3 + m % 3) 0) c

module _ (before : List ℕ) (n : ℕ) (mid after block turned-block : List ℕ) (T : TurnedTo before n mid) (h : n < 9) (B : BlockOf mid (n / 3) (n % 3) block)
    (U : Turned block turned-block) (W : BlockSet turned-block (n / 3) (n % 3) mid after) where
  other_place : (m c k : ℕ) → m < n → c < 64 → k < 64 → 576 + (m % 3 * 64 + c) * 3 + m / 3 ≡ 576 + (n % 3 * 64 + k) * 3 + n / 3 → ⊥
  other_place m c k l d e f = same (split (m % 3 * 64 + c) (n % 3 * 64 + k) (m / 3) (n / 3) (omega arith) (omega arith) f)
    where
      split : (u v a b : ℕ) → a < 3 → b < 3 → 576 + u * 3 + a ≡ 576 + v * 3 + b → (u ≡ v) × (a ≡ b)
      split u v a b p q g = (omega arith, omega arith)

      digits : (a b : ℕ) → a * 64 + c ≡ b * 64 + k → a ≡ b
      digits a b g = omega arith

      same : (m % 3 * 64 + c ≡ n % 3 * 64 + k) × (m / 3 ≡ n / 3) → ⊥
      same (p, q) = omega (arith, digits (m % 3) (n % 3) p, q)

  here : (r c : ℕ) → r < 64 → c < 64 → bit (get_or after (576 + (n % 3 * 64 + c) * 3 + n / 3) 0) r ≡ bit (get_or before ((n / 3 * 64 + r) * 3 + n % 3) 0) c
  here r c l d =
      ap (λ (z : ℕ). bit z r) (W.words c d) ∙ U.bits c r d l ∙ ap (λ (z : ℕ). bit z c) (B.words r l)
      ∙ ap (λ (z : ℕ). bit z c) (T.rows ((n / 3 * 64 + r) * 3 + n % 3) (omega arith))

  pub turned_more : TurnedTo before (n + 1) after
  turned_more =
      record {
        within = omega arith;
        long = W.long ∙ T.long;
        rows = λ p l. W.there p (λ k d e. omega arith) ∙ T.rows p l;
        blocks =
            λ m r c l d e.
            ⊎_elim
            (λ (u : m ≡ n).
            subst (λ (z : ℕ). bit (get_or after (576 + (z % 3 * 64 + c) * 3 + z / 3) 0) r ≡ bit (get_or before ((z / 3 * 64 + r) * 3 + z % 3) 0) c) (sym u) (here r c d e))
            (λ v.
            ap (λ (z : ℕ). bit z r) (W.there (576 + (m % 3 * 64 + c) * 3 + m / 3) (λ k f g. other_place m c k v e f g)) ∙ T.blocks m r c v d e)
            (last-cases m n (omega arith));
      }

pub turned-done : (before : List ℕ) (n : ℕ) (after : List ℕ) → 9 ≤ n → TurnedTo before n after → Transposed before after
turned-done before n after h T =
    record {
      long = T.long;
      rows = T.rows;
      columns =
          λ i j l k.
          let m : i / 64 * 3 + j / 64 < n = omega arith in
          let a : (i / 64 * 3 + j / 64) / 3 ≡ i / 64 = omega arith in
          let b : (i / 64 * 3 + j / 64) % 3 ≡ j / 64 = omega arith in
          let p : 576 + ((i / 64 * 3 + j / 64) % 3 * 64 + j % 64) * 3 + (i / 64 * 3 + j / 64) / 3 ≡ 576 + j * 3 + i / 64 = omega arith in
          let q : ((i / 64 * 3 + j / 64) / 3 * 64 + i % 64) * 3 + (i / 64 * 3 + j / 64) % 3 ≡ i * 3 + j / 64 = omega arith in
          ap (λ (z : ℕ). bit (get_or after z 0) (i % 64)) (sym p) ∙ T.blocks (i / 64 * 3 + j / 64) (i % 64) (j % 64) m (omega arith) (omega arith)
          ∙ ap (λ (z : ℕ). bit (get_or before z 0) (j % 64)) q;
    }
