-- Loading rows out of bytes.
use Prim.Native.Nat.{ℕ, zero, suc, ◌+◌, ◌*◌, ◌-◌, ◌/◌, ◌%◌, ◌^◌, ◌<◌, ◌≤◌}
use mathlib.Core.Path.{◌≡◌, refl, ap, ap₂, sym, ◌∙◌, subst}
use mathlib.Core.List.{List, [], ◌∷◌}
use mathlib.Core.Bool.{Bool, true, false}
use mathlib.Core.Logic.{◌⊎◌, inl, inr, ⊎_elim}
use native.Mathlib.Omega.{arith}
use native.Mathlib.Nat.{mod-lt}
use lib.Dec.{ltb}
use lib.Pow.{pow_pos}
use lib.ListN.{length, get_or, set, length-set}
use lib.Seq.{get_or-set_same, get_or-set_other}
use lib.Bits.{bit_or}
use borrow.Author.Tests.{lt-ltb, le-ltb}
use Rattle.subsumption.specs.Tables.{or, both}
use Rattle.subsumption.specs.Atoms.{bit}
use Rattle.subsumption.specs.Table.{row_start, marked}
use Rattle.subsumption.proofs.Bools.{or-skip, both-skip, both-none, le-or-lt, last-cases}
use Rattle.subsumption.proofs.Bits.{bit-or, bit-mod, bit_past, bit-shl, bit-shl-low}
use Rattle.subsumption.proofs.MarkLaws.{shifted}
use Rattle.square.specs.Inner.Square.{on_line, in_row}
use Rattle.square.specs.Inner.Turning.{Transposed}
use Rattle.square.specs.Inner.Loading.{WordOf, Masked, known, Loaded, RowLoaded, RowsLoaded}
use Rattle.square.proofs.BitLaws.{no_bits}

-- ---- eight bytes as one word
or-none : (a b : Bool) → b ≡ false → or a b ≡ a
unfolding or
or-none true b e = refl
or-none false b e = e

module _ (bytes : List ℕ) (at : ℕ) where
  pub record WordTo (m word : ℕ) : Type 0 where
    pub bits : (k : ℕ) → k < m * 8 → bit word k ≡ bit (get_or bytes (at + k / 8) 0) (k % 8)
    pub high : (k : ℕ) → m * 8 ≤ k → k < 64 → bit word k ≡ false

  pub word_first : get_or bytes at 0 < 2 ^ 8 → WordTo 1 (get_or bytes at 0)
  word_first h =
      record {
        bits = λ k l. ap₂ (λ (u v : ℕ). bit (get_or bytes u 0) v) (first k l) (rest k l);
        high = λ k l u. bit_past (get_or bytes at 0) 8 k h (omega arith);
      }
    where
      first : (k : ℕ) → k < 1 * 8 → at ≡ at + k / 8
      first k l = omega arith

      rest : (k : ℕ) → k < 1 * 8 → k ≡ k % 8
      rest k l = omega arith

  pub word_more : (m word : ℕ) → m < 8 → get_or bytes (at + m) 0 < 2 ^ 8 → WordTo m word → WordTo (m + 1) (bit_or word (get_or bytes (at + m) 0 * 2 ^ (m * 8) % 18446744073709551616))
  word_more m word h small W = record { bits = λ k l. ⊎_elim (new k l) (old k l) (le-or-lt (m * 8) k); high = past }
    where
      old : (k : ℕ) → k < (m + 1) * 8 → k < m * 8 → bit (bit_or word (get_or bytes (at + m) 0 * 2 ^ (m * 8) % 18446744073709551616)) k ≡ bit (get_or bytes (at + k / 8) 0) (k % 8)
      old k l u =
          bit-or word (get_or bytes (at + m) 0 * 2 ^ (m * 8) % 18446744073709551616) k
          ∙ or-none _ _ (bit-shl-low (get_or bytes (at + m) 0) (m * 8) k u (omega arith)) ∙ W.bits k u

      new : (k : ℕ) → k < (m + 1) * 8 → m * 8 ≤ k → bit (bit_or word (get_or bytes (at + m) 0 * 2 ^ (m * 8) % 18446744073709551616)) k ≡ bit (get_or bytes (at + k / 8) 0) (k % 8)
      new k l u =
          let e : at + m ≡ at + k / 8 = omega arith in
          let f : k - m * 8 ≡ k % 8 = omega arith in
          bit-or word (get_or bytes (at + m) 0 * 2 ^ (m * 8) % 18446744073709551616) k ∙ or-skip _ _ (W.high k u (omega arith))
          ∙ bit-shl (get_or bytes (at + m) 0) (m * 8) k u (omega arith) ∙ ap₂ (λ (x y : ℕ). bit (get_or bytes x 0) y) e f

      past : (k : ℕ) → (m + 1) * 8 ≤ k → k < 64 → bit (bit_or word (get_or bytes (at + m) 0 * 2 ^ (m * 8) % 18446744073709551616)) k ≡ false
      past k l u =
          bit-or word (get_or bytes (at + m) 0 * 2 ^ (m * 8) % 18446744073709551616) k ∙ or-skip _ _ (W.high k (omega arith) u)
          ∙ bit-shl (get_or bytes (at + m) 0) (m * 8) k (omega arith) u ∙ bit_past (get_or bytes (at + m) 0) 8 (k - m * 8) small (omega arith)

  pub word-done : (word : ℕ) → WordTo 8 word → WordOf bytes at word
  word-done word W = record { bits = λ k l. W.bits k (omega arith) }

-- ---- bits of ids
module _ (count k word : ℕ) where
  pub masked-all : k * 64 + 64 ≤ count → Masked count k word word
  masked-all h = record { bits = λ b l. sym (both-skip (ltb (k * 64 + b) count) (bit word b) (lt-ltb (k * 64 + b) count (omega arith))) }

  pub masked-none : count ≤ k * 64 → Masked count k word 0
  masked-none h = record { bits = λ b l. no_bits b ∙ sym (both-none (ltb (k * 64 + b) count) (bit word b) (le-ltb (k * 64 + b) count (omega arith))) }

  pub masked-some : (n : ℕ) → count < k * 64 + 64 → k * 64 < count → n ≡ count - k * 64 → Masked count k word (word % (1 * 2 ^ n % 18446744073709551616))
  masked-some n h l e =
      subst (λ (z : ℕ). Masked count k word (word % z)) (sym (shifted n (omega arith)))
      (record { bits = λ b m. ⊎_elim (past b m) (under b m) (le-or-lt n b) })
    where
      under : (b : ℕ) → b < 64 → b < n → bit (word % 2 ^ n) b ≡ both (ltb (k * 64 + b) count) (bit word b)
      under b m u = bit-mod word n b u ∙ sym (both-skip (ltb (k * 64 + b) count) (bit word b) (lt-ltb (k * 64 + b) count (omega arith)))

      past : (b : ℕ) → b < 64 → n ≤ b → bit (word % 2 ^ n) b ≡ both (ltb (k * 64 + b) count) (bit word b)
      past b m u = bit_past (word % 2 ^ n) n b (mod-lt word (pow_pos n)) u ∙ sym (both-none (ltb (k * 64 + b) count) (bit word b) (le-ltb (k * 64 + b) count (omega arith)))

-- ---- one row
module _ (bytes : List ℕ) (count i : ℕ) (before : List ℕ) (low : i < 192) (long : length before ≡ 1152) (word₀ word₁ word₂ first second third : ℕ)
    (A : WordOf bytes (i * 24) word₀) (B : WordOf bytes (i * 24 + 8) word₁) (C : WordOf bytes (i * 24 + 16) word₂)
    (D : Masked count 0 word₀ first) (E : Masked count 1 word₁ second) (G : Masked count 2 word₂ third) where
  abbrev one : List ℕ
  one = set before (i * 3) first

  abbrev two : List ℕ
  two = set one (i * 3 + 1) second

  abbrev three : List ℕ
  three = set two (i * 3 + 2) third

  one-long : length one ≡ 1152
  one-long = length-set before (i * 3) first ∙ long

  two-long : length two ≡ 1152
  two-long = length-set one (i * 3 + 1) second ∙ one-long

  row_word : (w : ℕ) → w < 3 → get_or three (i * 3 + w) 0 ≡ get_or (first ∷ second ∷ third ∷ []) w 0
  row_word zero h =
      subst (λ (z : ℕ). get_or three z 0 ≡ first) (omega arith)
      (get_or-set_other two (i * 3 + 2) (i * 3) third 0 (λ e. omega arith) ∙ get_or-set_other one (i * 3 + 1) (i * 3) second 0 (λ e. omega arith)
      ∙ get_or-set_same before (i * 3) first 0 (omega arith))
  row_word (suc zero) h =
      get_or-set_other two (i * 3 + 2) (i * 3 + 1) third 0 (λ e. omega arith) ∙ get_or-set_same one (i * 3 + 1) second 0 (omega (arith, one-long))
  row_word (suc (suc zero)) h = get_or-set_same two (i * 3 + 2) third 0 (omega (arith, two-long))
  row_word (suc (suc (suc w))) h = absurd (omega arith)

  word-bit : (w b : ℕ) → w < 3 → b < 64 → bit (get_or (first ∷ second ∷ third ∷ []) w 0) b ≡ both (ltb (w * 64 + b) count) (bit (get_or bytes (i * 24 + w * 8 + b / 8) 0) (b % 8))
  word-bit zero b h l =
      let e : i * 24 + b / 8 ≡ i * 24 + 0 * 8 + b / 8 = omega arith in
      D.bits b l ∙ ap (both (ltb (0 * 64 + b) count)) (A.bits b l ∙ ap (λ (z : ℕ). bit (get_or bytes z 0) (b % 8)) e)
  word-bit (suc zero) b h l = E.bits b l ∙ ap (both (ltb (1 * 64 + b) count)) (B.bits b l)
  word-bit (suc (suc zero)) b h l = G.bits b l ∙ ap (both (ltb (2 * 64 + b) count)) (C.bits b l)
  word-bit (suc (suc (suc w))) b h l = absurd (omega arith)

  pub row_loaded : RowLoaded bytes count i before three
  unfolding on_line marked row_start
  row_loaded =
      record {
        long = length-set two (i * 3 + 2) third ∙ length-set one (i * 3 + 1) second ∙ length-set before (i * 3) first;
        marks =
            λ j l.
            let e : j / 64 * 64 + j % 64 ≡ j = omega arith in
            let f : i * 24 + j / 64 * 8 + j % 64 / 8 ≡ i * 24 + j / 8 = omega arith in
            let g : j % 64 % 8 ≡ j % 8 = omega arith in
            ap (λ (z : ℕ). bit z (j % 64)) (row_word (j / 64) (omega arith)) ∙ word-bit (j / 64) (j % 64) (omega arith) (omega arith)
            ∙ ap₂ both (ap (λ (z : ℕ). ltb z count) e) (ap₂ (λ (x y : ℕ). bit (get_or bytes x 0) y) f g);
        there = λ p h. apart p h;
      }
    where
      apart : (p : ℕ) → (p < i * 3) ⊎ (i * 3 + 3 ≤ p) → get_or three p 0 ≡ get_or before p 0
      apart p (inl h) =
          get_or-set_other two (i * 3 + 2) p third 0 (λ e. omega arith) ∙ get_or-set_other one (i * 3 + 1) p second 0 (λ e. omega arith)
          ∙ get_or-set_other before (i * 3) p first 0 (λ e. omega arith)
      apart p (inr h) =
          get_or-set_other two (i * 3 + 2) p third 0 (λ e. omega arith) ∙ get_or-set_other one (i * 3 + 1) p second 0 (λ e. omega arith)
          ∙ get_or-set_other before (i * 3) p first 0 (λ e. omega arith)

-- ---- all rows
pub record RowsLoadedTo (bytes : List ℕ) (count n : ℕ) (after : List ℕ) : Type 0 where
  pub within : n ≤ count
  pub long : length after ≡ 1152
  pub marks : (i j : ℕ) → i < n → j < 192 → in_row after i j ≡ known bytes count i j

module _ (bytes : List ℕ) (count : ℕ) where
  pub loaded-more : (n : ℕ) (mid after : List ℕ) → n < count → RowsLoadedTo bytes count n mid → RowLoaded bytes count n mid after → RowsLoadedTo bytes count (n + 1) after
  unfolding on_line
  loaded-more n mid after h T R =
      record {
        within = omega arith;
        long = R.long ∙ T.long;
        marks =
            λ i j l m.
            ⊎_elim (λ (e : i ≡ n). subst (λ (z : ℕ). in_row after z j ≡ known bytes count z j) (sym e) (R.marks j m))
            (λ v. ap (λ (z : ℕ). bit z (j % 64)) (R.there (i * 3 + j / 64) (inl (omega arith))) ∙ T.marks i j v m) (last-cases i n (omega arith));
      }

  pub loaded : (before after : List ℕ) → count ≤ 192 → RowsLoaded bytes count before → Transposed before after → Loaded count bytes after
  unfolding on_line
  loaded before after few R T =
      record {
        whole =
            record {
              long = T.long;
              mirror = λ i j l k. ap (λ (z : ℕ). bit z (j % 64)) (T.rows (i * 3 + j / 64) (omega arith)) ∙ sym (T.columns i j l k);
            };
        marks = λ i j l k. ap (λ (z : ℕ). bit z (j % 64)) (T.rows (i * 3 + j / 64) (omega arith)) ∙ R.marks i j l k;
      }
