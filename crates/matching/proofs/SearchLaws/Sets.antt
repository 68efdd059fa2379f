-- Sets of ids as three words: walking through one, joining, meeting and writing.
use Prim.Native.Nat.{ℕ, zero, suc, ◌+◌, ◌-◌, ◌*◌, ◌/◌, ◌%◌, ◌^◌, ◌<◌, ◌≤◌}
use mathlib.Core.Path.{◌≡◌, refl, sym, ap, ap₂, ◌∙◌}
use mathlib.Core.List.{List, [], ◌∷◌}
use mathlib.Core.Bool.{Bool, true, false, true≢false}
use mathlib.Core.Logic.{◌⊎◌, inl, inr, ⊎_elim}
use native.Mathlib.Omega.{arith}
use native.Mathlib.Nat.{div-le_self}
use lib.Dec.{eqb}
use lib.ListN.{length, get_or, set, length-set}
use lib.Seq.{get_or-set_same, get_or-set_other}
use lib.Bits.{bit_and, bit_or}
use lib.Count.{count_trailing_zeros}
use borrow.Author.Tests.{eqb-true, eqb-false}
use Rattle.subsumption.specs.Tables.{or, both}
use Rattle.subsumption.specs.Atoms.{bit}
use Rattle.subsumption.proofs.Bools.{le-or-lt}
use Rattle.subsumption.proofs.Bits.{bit-or, bit-and, bit-ones, bit_past, bit-shr}
use Rattle.square.specs.Inner.Square.{on_line}
use Rattle.square.proofs.BitLaws.{Lowest, lowest, no_bits}
use Rattle.square.proofs.SetLaws.{line-three}
use Rattle.subsumption.specs.declared.closure.columns.Words.{Words}
use Rattle.matching.specs.Inner.Search.Sets.{NextBit, NextIn, Compared, PutAt}
use Rattle.matching.specs.Inner.Search.Problem.{line_at, fit_at}

-- ---- where lines and fits stand
pub line-right : (b : Bool) (i : ℕ) → b ≡ true → 576 + i * 3 ≡ line_at b i
line-right true i e = refl
line-right false i e = absurd (true≢false (sym e))

pub line-left : (b : Bool) (i : ℕ) → b ≡ false → i * 3 ≡ line_at b i
line-left true i e = absurd (true≢false e)
line-left false i e = refl

pub fit-right : (b : Bool) (i : ℕ) → b ≡ true → 1152 + i * 3 ≡ fit_at b i
fit-right true i e = refl
fit-right false i e = absurd (true≢false (sym e))

pub fit-left : (b : Bool) (i : ℕ) → b ≡ false → 1728 + i * 3 ≡ fit_at b i
fit-left true i e = absurd (true≢false e)
fit-left false i e = refl

pub line_low : (b : Bool) (i : ℕ) → i < 192 → line_at b i + 3 ≤ 1152
line_low true i l = omega arith
line_low false i l = omega arith

pub fit_low : (b : Bool) (i : ℕ) → i < 192 → fit_at b i + 3 ≤ 2304
fit_low true i l = omega arith
fit_low false i l = omega arith

-- ---- the lowest one of a word from a place on
pub next-end : (word from : ℕ) → from ≡ 64 → NextBit word from 64
next-end word from e = record { after = omega arith; within = omega arith; here = λ h. absurd (omega arith); between = λ k l h. absurd (omega arith) }

module _ (word from : ℕ) where
  shifted-bit : (k : ℕ) → from ≤ k → bit (word / 2 ^ from) (k - from) ≡ bit word k
  shifted-bit k l = let e : from + (k - from) ≡ k = omega arith in bit-shr word from (k - from) ∙ ap (bit word) e

  pub next-none : from ≤ 64 → word / 2 ^ from ≡ 0 → NextBit word from 64
  next-none h e =
      record {
        after = h;
        within = omega arith;
        here = λ l. absurd (omega arith);
        between = λ k l m. sym (shifted-bit k l) ∙ ap (λ (z : ℕ). bit z (k - from)) e ∙ no_bits (k - from);
      }

  module _ (small : word < 2 ^ 64) (some : word / 2 ^ from ≡ 0 → ⊥) where
    rest-lowest : Lowest 64 (word / 2 ^ from) (count_trailing_zeros 64 (word / 2 ^ from)) (bit_and (word / 2 ^ from) (word / 2 ^ from - 1))
    rest-lowest = lowest 64 (word / 2 ^ from) (positive (word / 2 ^ from) some) (omega (arith, div-le_self word (2 ^ from)))
      where
        positive : (x : ℕ) → (x ≡ 0 → ⊥) → 0 < x
        positive zero n = absurd (n refl)
        positive (suc x) n = omega arith

    pub rest-low : count_trailing_zeros 64 (word / 2 ^ from) < 64
    rest-low = rest-lowest.low

    found_here : bit word (from + count_trailing_zeros 64 (word / 2 ^ from)) ≡ true
    found_here = sym (bit-shr word from _) ∙ rest-lowest.here

    pub next-found : NextBit word from (from + count_trailing_zeros 64 (word / 2 ^ from))
    next-found =
        record {
          after = omega arith;
          within =
              ⊎_elim (λ l. l)
              (λ (l : 64 < from + count_trailing_zeros 64 (word / 2 ^ from)). absurd (true≢false (sym found_here ∙ bit_past word 64 _ small (omega arith))))
              (le-or-lt (from + count_trailing_zeros 64 (word / 2 ^ from)) 64);
          here = λ _. found_here;
          between = λ k l m. sym (shifted-bit k l) ∙ rest-lowest.under (k - from) (omega arith);
        }

-- ---- the lowest id of a set from an id on
pub line-bit : (sets : List ℕ) (at w k : ℕ) → k < 64 → on_line sets at (w * 64 + k) ≡ bit (get_or sets (at + w) 0) k
unfolding on_line
line-bit sets at w k l =
    let e : (w * 64 + k) / 64 ≡ w = omega arith in
    let f : (w * 64 + k) % 64 ≡ k = omega arith in
    ap₂ (λ (x y : ℕ). bit (get_or sets (at + x) 0) y) e f

pub record WalkedTo (sets : List ℕ) (at from w start : ℕ) : Type 0 where
  pub within : w * 64 + start ≤ 192
  pub low : start < 64
  pub after : from ≤ w * 64 + start
  pub between : (k : ℕ) → from ≤ k → k < w * 64 + start → on_line sets at k ≡ false

module _ (sets : List ℕ) (at from : ℕ) where
  module _ (w start place : ℕ) (h : w < 3) (W : WalkedTo sets at from w start) (N : NextBit (get_or sets (at + w) 0) start place) where
    passed : (k : ℕ) → from ≤ k → k < w * 64 + place → on_line sets at k ≡ false
    passed k l m =
        ⊎_elim
        (λ (u : w * 64 + start ≤ k).
        let e : w * 64 + (k - w * 64) ≡ k = omega arith in
        sym (ap (on_line sets at) e) ∙ line-bit sets at w (k - w * 64) (omega (arith, N.within)) ∙ N.between (k - w * 64) (omega arith) (omega arith))
        (λ u. W.between k l u) (le-or-lt (w * 64 + start) k)

    pub walked-found : place < 64 → NextIn sets at from (w * 64 + place)
    walked-found l =
        record {
          after = omega (arith, W.after, N.after);
          within = omega arith;
          here = λ _. line-bit sets at w place l ∙ N.here l;
          between = passed;
        }

    pub walked_more : 64 ≤ place → WalkedTo sets at from (w + 1) 0
    walked_more l =
        record {
          within = omega arith;
          low = omega arith;
          after = omega (arith, W.after, W.low);
          between = λ k m n. passed k m (omega arith);
        }

-- ---- three words
pub same_at : (sets : List ℕ) (at a b c : ℕ) → a ≡ get_or sets at 0 → b ≡ get_or sets (at + 1) 0 → c ≡ get_or sets (at + 2) 0
    → (y : ℕ) → y < 192 → on_line (a ∷ b ∷ c ∷ []) 0 y ≡ on_line sets at y
same_at sets at a b c p q r y l = rw (p, q, r) (line-three sets at y l)

module _ (a b c x y z i : ℕ) (l : i < 192) where
  pub or-three : on_line (bit_or a x ∷ bit_or b y ∷ bit_or c z ∷ []) 0 i ≡ or (on_line (a ∷ b ∷ c ∷ []) 0 i) (on_line (x ∷ y ∷ z ∷ []) 0 i)
  unfolding on_line
  or-three = ap (λ (w : ℕ). bit w (i % 64)) (go (i / 64) (omega arith)) ∙ bit-or _ _ (i % 64)
    where
      go :
          (w : ℕ) → w < 3
          → get_or (bit_or a x ∷ bit_or b y ∷ bit_or c z ∷ []) (0 + w) 0 ≡ bit_or (get_or (a ∷ b ∷ c ∷ []) (0 + w) 0) (get_or (x ∷ y ∷ z ∷ []) (0 + w) 0)
      go zero h = refl
      go (suc zero) h = refl
      go (suc (suc zero)) h = refl
      go (suc (suc (suc w))) h = absurd (omega arith)

  pub and-three : on_line (bit_and a x ∷ bit_and b y ∷ bit_and c z ∷ []) 0 i ≡ both (on_line (a ∷ b ∷ c ∷ []) 0 i) (on_line (x ∷ y ∷ z ∷ []) 0 i)
  unfolding on_line
  and-three = ap (λ (w : ℕ). bit w (i % 64)) (go (i / 64) (omega arith)) ∙ bit-and _ _ (i % 64)
    where
      go :
          (w : ℕ) → w < 3
          → get_or (bit_and a x ∷ bit_and b y ∷ bit_and c z ∷ []) (0 + w) 0 ≡ bit_and (get_or (a ∷ b ∷ c ∷ []) (0 + w) 0) (get_or (x ∷ y ∷ z ∷ []) (0 + w) 0)
      go zero h = refl
      go (suc zero) h = refl
      go (suc (suc zero)) h = refl
      go (suc (suc (suc w))) h = absurd (omega arith)

-- the same word three times
thrice : (a i : ℕ) → i < 192 → on_line (a ∷ a ∷ a ∷ []) 0 i ≡ bit a (i % 64)
unfolding on_line
thrice a i l = ap (λ (w : ℕ). bit w (i % 64)) (go (i / 64) (omega arith))
  where
    go : (w : ℕ) → w < 3 → get_or (a ∷ a ∷ a ∷ []) (0 + w) 0 ≡ a
    go zero h = refl
    go (suc zero) h = refl
    go (suc (suc zero)) h = refl
    go (suc (suc (suc w))) h = absurd (omega arith)

pub all_in : (i : ℕ) → i < 192 → on_line (18446744073709551615 ∷ 18446744073709551615 ∷ 18446744073709551615 ∷ []) 0 i ≡ true
all_in i l = thrice 18446744073709551615 i l ∙ bit-ones (i % 64) (omega arith)

pub none_in : (i : ℕ) → i < 192 → on_line (0 ∷ 0 ∷ 0 ∷ []) 0 i ≡ true → ⊥
none_in i l h = true≢false (sym h ∙ thrice 0 i l ∙ no_bits (i % 64))

-- reading one
module _ (a b c i : ℕ) where
  pub in-first : i < 64 → eqb (a / 2 ^ i % 2) 1 ≡ on_line (a ∷ b ∷ c ∷ []) 0 i
  unfolding on_line bit
  in-first l =
      let e : i / 64 ≡ 0 = omega arith in
      let f : i % 64 ≡ i = omega arith in
      sym (ap₂ (λ (u v : ℕ). bit (get_or (a ∷ b ∷ c ∷ []) (0 + u) 0) v) e f)

  pub in-second : 64 ≤ i → i < 128 → eqb (b / 2 ^ (i - 64) % 2) 1 ≡ on_line (a ∷ b ∷ c ∷ []) 0 i
  unfolding on_line bit
  in-second l h =
      let e : i / 64 ≡ 1 = omega arith in
      let f : i % 64 ≡ i - 64 = omega arith in
      sym (ap₂ (λ (u v : ℕ). bit (get_or (a ∷ b ∷ c ∷ []) (0 + u) 0) v) e f)

  pub in-third : 128 ≤ i → i < 192 → eqb (c / 2 ^ (i - 128) % 2) 1 ≡ on_line (a ∷ b ∷ c ∷ []) 0 i
  unfolding on_line bit
  in-third l h =
      let e : i / 64 ≡ 2 = omega arith in
      let f : i % 64 ≡ i - 128 = omega arith in
      sym (ap₂ (λ (u v : ℕ). bit (get_or (a ∷ b ∷ c ∷ []) (0 + u) 0) v) e f)

-- comparing
of_three : ℕ → ℕ → ℕ → Words
of_three a b c = record { first = a; second = b; third = c }

words_same : (a b : Words) → a.first ≡ b.first → a.second ≡ b.second → a.third ≡ b.third → a ≡ b
unfolding of_three
words_same a b p q r = ap₂ (λ (x y : ℕ). of_three x y a.third) p q ∙ ap (of_three b.first b.second) r

module _ (a b : Words) where
  pub first-differs : (a.first ≡ b.first → ⊥) → Compared a b false
  first-differs n = record { same = λ e. absurd (true≢false (sym e)); other = λ e p q r. n p }

  pub second-differs : (a.second ≡ b.second → ⊥) → Compared a b false
  second-differs n = record { same = λ e. absurd (true≢false (sym e)); other = λ e p q r. n q }

  pub third-compared : a.first ≡ b.first → a.second ≡ b.second → Compared a b (eqb a.third b.third)
  third-compared p q =
      record {
        same = λ e. words_same a b p q (eqb-true _ _ e);
        other = λ e u v r. eqb-false a.third b.third e r;
      }

-- writing them
module _ (before : List ℕ) (at : ℕ) (w : Words) (fits : at + 3 ≤ length before) where
  abbrev one : List ℕ
  one = set before at w.first

  abbrev two : List ℕ
  two = set one (at + 1) w.second

  abbrev written : List ℕ
  written = set two (at + 2) w.third

  one-long : length one ≡ length before
  one-long = length-set before at w.first

  two-long : length two ≡ length before
  two-long = length-set one (at + 1) w.second ∙ one-long

  word_first : get_or written at 0 ≡ w.first
  word_first =
      get_or-set_other two (at + 2) at w.third 0 (λ e. omega arith) ∙ get_or-set_other one (at + 1) at w.second 0 (λ e. omega arith)
      ∙ get_or-set_same before at w.first 0 (omega arith)

  word-second : get_or written (at + 1) 0 ≡ w.second
  word-second =
      get_or-set_other two (at + 2) (at + 1) w.third 0 (λ e. omega arith) ∙ get_or-set_same one (at + 1) w.second 0 (omega (arith, one-long))

  word-third : get_or written (at + 2) 0 ≡ w.third
  word-third = get_or-set_same two (at + 2) w.third 0 (omega (arith, two-long))

  there : (p : ℕ) → (p < at) ⊎ (at + 3 ≤ p) → get_or written p 0 ≡ get_or before p 0
  there p (inl h) =
      get_or-set_other two (at + 2) p w.third 0 (λ e. omega arith) ∙ get_or-set_other one (at + 1) p w.second 0 (λ e. omega arith)
      ∙ get_or-set_other before at p w.first 0 (λ e. omega arith)
  there p (inr h) =
      get_or-set_other two (at + 2) p w.third 0 (λ e. omega arith) ∙ get_or-set_other one (at + 1) p w.second 0 (λ e. omega arith)
      ∙ get_or-set_other before at p w.first 0 (λ e. omega arith)

  pub put-at : PutAt before written at w
  put-at =
      record {
        long = length-set two (at + 2) w.third ∙ two-long;
        here = same_at written at w.first w.second w.third (sym word_first) (sym word-second) (sym word-third);
        there = there;
      }
