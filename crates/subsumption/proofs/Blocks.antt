-- Blocks of eight by eight bits: how one is transposed, and how it is gathered from the columns.
use Prim.Native.Nat.{ℕ, zero, suc, ◌+◌, ◌-◌, ◌*◌, ◌/◌, ◌%◌, ◌^◌, ◌<◌, ◌≤◌}
use mathlib.Core.Path.{◌≡◌, refl, sym, ap, ap₂, ◌∙◌, subst}
use mathlib.Core.List.{List}
use mathlib.Core.Bool.{Bool, true, false}
use mathlib.Core.Logic.{⊎_elim}
use native.Mathlib.Omega.{arith}
use native.Mathlib.Nat.{mod-lt}
use lib.Pow.{pow_pos}
use lib.Dec.{eqb, ltb, leb}
use lib.ListN.{length, get_or, set, length-set}
use lib.Seq.{get_or-set_same, get_or-set_other}
use lib.Bits.{bit_and, bit_or}
use borrow.Author.Tests.{eqb-true, eqb-false, ltb-true, leb-true, lt-ltb, le-ltb}
use Rattle.subsumption.specs.Tables.{or, both}
use Rattle.subsumption.specs.Atoms.{bit}
use Rattle.subsumption.specs.Inner.Columns.{has}
use Rattle.subsumption.specs.Inner.Rows.{exchanged, shown, Transposed, BlockOf, BandOf, Banded}
use Rattle.subsumption.proofs.Bools.{or-skip, both_true, last-cases}
use Rattle.subsumption.proofs.Bits.{bit-and, bit-or, bit-of-zero, bit-shr, bit-shl, bit-shl-low, bit-mod, bit_past}

-- ---- one exchange
-- the place that the bit at k comes from
source_if : Bool → Bool → ℕ → ℕ → ℕ
source_if true down by k = by + k
source_if false true by k = k - by
source_if false false by k = k

-- just one of the three masks has the place, and there is one `by` places below if `down` has it
fits_if : Bool → Bool → Bool → Bool → Bool
fits_if true true down low = false
fits_if true false true low = false
fits_if true false false low = true
fits_if false true true low = false
fits_if false true false low = true
fits_if false false true low = low
fits_if false false false low = false

source : ℕ → ℕ → ℕ → ℕ → ℕ
source by up down k = source_if (bit up k) (bit down k) by k

fits : ℕ → ℕ → ℕ → ℕ → ℕ → Bool
fits by stay up down k = fits_if (bit stay k) (bit up k) (bit down k) (leb by k)

first-only : (a b c : Bool) → or (or (both a true) (both b false)) (both c false) ≡ a
unfolding or both
first-only true b c = refl
first-only false true true = refl
first-only false true false = refl
first-only false false true = refl
first-only false false false = refl

second-only : (a b c : Bool) → or (or (both a false) (both b true)) (both c false) ≡ b
unfolding or both
second-only true true c = refl
second-only false true c = refl
second-only true false true = refl
second-only true false false = refl
second-only false false true = refl
second-only false false false = refl

third-only : (a b c : Bool) → or (or (both a false) (both b false)) (both c true) ≡ c
unfolding or both
third-only true true true = refl
third-only true true false = refl
third-only true false true = refl
third-only true false false = refl
third-only false true true = refl
third-only false true false = refl
third-only false false true = refl
third-only false false false = refl

module _ (x by stay up down k : ℕ) (h : k < 64) where
  three :
      bit (exchanged x by stay up down) k
      ≡ or (or (both (bit x k) (bit stay k)) (both (bit (x / 2 ^ by) k) (bit up k))) (both (bit (x * 2 ^ by % 2 ^ 64) k) (bit down k))
  three =
      bit-or (bit_or (bit_and x stay) (bit_and (x / 2 ^ by) up)) (bit_and (x * 2 ^ by % 2 ^ 64) down) k
      ∙ ap₂ or
      (bit-or (bit_and x stay) (bit_and (x / 2 ^ by) up) k ∙ ap₂ or (bit-and x stay k) (bit-and (x / 2 ^ by) up k))
      (bit-and (x * 2 ^ by % 2 ^ 64) down k)

  go :
      (s u d : Bool) → fits_if s u d (leb by k) ≡ true
      → or (or (both (bit x k) s) (both (bit (x / 2 ^ by) k) u)) (both (bit (x * 2 ^ by % 2 ^ 64) k) d) ≡ bit x (source_if u d by k)
  unfolding fits_if source_if
  go true true d e = cc e
  go true false true e = cc e
  go true false false e = first-only (bit x k) (bit (x / 2 ^ by) k) (bit (x * 2 ^ by % 2 ^ 64) k)
  go false true true e = cc e
  go false true false e = second-only (bit x k) (bit (x / 2 ^ by) k) (bit (x * 2 ^ by % 2 ^ 64) k) ∙ bit-shr x by k
  go false false true e = third-only (bit x k) (bit (x / 2 ^ by) k) (bit (x * 2 ^ by % 2 ^ 64) k) ∙ bit-shl x by k (leb-true by k e) h
  go false false false e = cc e

  exchanged-bit : fits by stay up down k ≡ true → bit (exchanged x by stay up down) k ≡ bit x (source by up down k)
  unfolding fits source
  exchanged-bit e = three ∙ go (bit stay k) (bit up k) (bit down k) e

-- ---- the three exchanges, over all 64 places
all_below : ℕ → (ℕ → Bool) → Bool
all_below zero test = true
all_below (suc n) test = both (test n) (all_below n test)

all-elim : (n : ℕ) (test : ℕ → Bool) → all_below n test ≡ true → (m : ℕ) → m < n → test m ≡ true
unfolding all_below
all-elim zero test h m l = absurd (omega arith)
all-elim (suc n) test h m l =
    let u = both_true (test n) (all_below n test) h in
    ⊎_elim (λ (e : m ≡ n). ap test e ∙ u.0) (λ k. all-elim n test u.1 m k) (last-cases m n l)

fits1 : ℕ → Bool
fits1 = fits 7 0xaa55aa55aa55aa55 0x00aa00aa00aa00aa 0x5500550055005500

fits2 : ℕ → Bool
fits2 = fits 14 0xcccc3333cccc3333 0x0000cccc0000cccc 0x3333000033330000

fits4 : ℕ → Bool
fits4 = fits 28 0xf0f0f0f00f0f0f0f 0x00000000f0f0f0f0 0x0f0f0f0f00000000

from1 : ℕ → ℕ
from1 = source 7 0x00aa00aa00aa00aa 0x5500550055005500

from2 : ℕ → ℕ
from2 = source 14 0x0000cccc0000cccc 0x3333000033330000

from4 : ℕ → ℕ
from4 = source 28 0x00000000f0f0f0f0 0x0f0f0f0f00000000

-- from the place k the three lead back to the place that mirrors it
mirrors : ℕ → Bool
mirrors k =
    both (both (fits4 k) (ltb (from4 k) 64))
    (both (both (fits2 (from4 k)) (ltb (from2 (from4 k)) 64)) (both (fits1 (from2 (from4 k))) (eqb (from1 (from2 (from4 k))) (k % 8 * 8 + k / 8))))

all-mirror : all_below 64 mirrors ≡ true
unfolding all_below mirrors fits1 fits2 fits4 from1 from2 from4 fits source fits_if source_if bit both
all-mirror = refl

module _ (x ones twos y : ℕ) (e : ones ≡ exchanged x 7 0xaa55aa55aa55aa55 0x00aa00aa00aa00aa 0x5500550055005500)
    (f : twos ≡ exchanged ones 14 0xcccc3333cccc3333 0x0000cccc0000cccc 0x3333000033330000)
    (g : y ≡ exchanged twos 28 0xf0f0f0f00f0f0f0f 0x00000000f0f0f0f0 0x0f0f0f0f00000000) where
  mirrored : (k : ℕ) → k < 64 → bit y k ≡ bit x (k % 8 * 8 + k / 8)
  unfolding mirrors fits1 fits2 fits4 from1 from2 from4
  mirrored k h =
      let u = both_true _ _ (all-elim 64 mirrors all-mirror k h) in
      let a = both_true _ _ u.0 in
      let v = both_true _ _ u.1 in
      let b = both_true _ _ v.0 in
      let w = both_true _ _ v.1 in
      ap (λ (z : ℕ). bit z k) g ∙ exchanged-bit twos _ _ _ _ k h a.0
      ∙ ap (λ (z : ℕ). bit z (from4 k)) f ∙ exchanged-bit ones _ _ _ _ (from4 k) (ltb-true _ _ a.1) b.0
      ∙ ap (λ (z : ℕ). bit z (from2 (from4 k))) e ∙ exchanged-bit x _ _ _ _ (from2 (from4 k)) (ltb-true _ _ b.1) w.0
      ∙ ap (bit x) (eqb-true _ _ w.1)

  pub transposed : Transposed x y
  transposed = record { bits = λ r b h l. mirrored (r * 8 + b) (omega arith) ∙ ap (bit x) (turn r b l) }
    where
      turn : (r b : ℕ) → b < 8 → (r * 8 + b) % 8 * 8 + (r * 8 + b) / 8 ≡ b * 8 + r
      turn r b l = omega arith

-- ---- gathering a block
is-not : (v : Bool) → (v ≡ true → ⊥) → v ≡ false
is-not true f = absurd (f refl)
is-not false f = refl

or_left : (a b : Bool) → b ≡ false → or a b ≡ a
unfolding or
or_left true b e = refl
or_left false b e = e

pub shows-below : (columns : List ℕ) (count i j : ℕ) → j < count → shown columns count i j ≡ has columns i j
unfolding both
shows-below columns count i j h = rw (lt-ltb j count h, both) refl

pub shows-over : (columns : List ℕ) (count i j : ℕ) → count ≤ j → shown columns count i j ≡ false
unfolding both
shows-over columns count i j h = rw (le-ltb j count h, both) refl

module _ (columns : List ℕ) (count m a : ℕ) where
  pub record BlockTo (b word : ℕ) : Type 0 where
    pub within : b ≤ 8
    pub bits : (c r : ℕ) → c < b → r < 8 → bit word (c * 8 + r) ≡ shown columns count (m * 8 + r) (a * 8 + c)
    pub high : (k : ℕ) → b * 8 ≤ k → k < 64 → bit word k ≡ false

  pub block_none : BlockTo 0 0
  block_none =
      record { within = omega arith; bits = λ c r h. absurd (omega arith); high = λ k h l. is-not (bit 0 k) (bit-of-zero k) }

  module _ (b word : ℕ) (B : BlockTo b word) (h : b < 8) where
    pub block-skip : count ≤ a * 8 + b → BlockTo (b + 1) word
    block-skip over = record { within = omega arith; bits = λ c r l q. go c r l q (eqb c b) refl; high = λ k l q. B.high k (omega arith) q }
      where
        go : (c r : ℕ) → c < b + 1 → r < 8 → (t : Bool) → eqb c b ≡ t → bit word (c * 8 + r) ≡ shown columns count (m * 8 + r) (a * 8 + c)
        go c r l q true s =
            let e : c ≡ b = eqb-true c b s in
            B.high (c * 8 + r) (omega arith) (omega arith) ∙ sym (shows-over columns count (m * 8 + r) (a * 8 + c) (omega arith))
        go c r l q false s = B.bits c r (omega (arith, eqb-false c b s)) q

    module _ (low : m < 24) (inside : a * 8 + b < count) where
      abbrev pub byte : ℕ
      byte = get_or columns ((a * 8 + b) * 3 + m / 8) 0 / 2 ^ (m % 8 * 8) % 2 ^ 8

      abbrev pub put : ℕ
      put = byte * 2 ^ (b * 8) % 2 ^ 64

      old : (k : ℕ) → k < b * 8 → bit (bit_or word put) k ≡ bit word k
      old k l = bit-or word put k ∙ or_left _ _ (bit-shl-low byte (b * 8) k l (omega arith))

      new : (k : ℕ) → b * 8 ≤ k → k < 64 → bit (bit_or word put) k ≡ bit byte (k - b * 8)
      new k l q = bit-or word put k ∙ or-skip _ _ (B.high k l q) ∙ bit-shl byte (b * 8) k l q

      here : (r : ℕ) → r < 8 → bit byte r ≡ shown columns count (m * 8 + r) (a * 8 + b)
      unfolding has
      here r l =
          bit-mod (get_or columns ((a * 8 + b) * 3 + m / 8) 0 / 2 ^ (m % 8 * 8)) 8 r l
          ∙ bit-shr (get_or columns ((a * 8 + b) * 3 + m / 8) 0) (m % 8 * 8) r
          ∙ ap₂ (λ (p q : ℕ). bit (get_or columns ((a * 8 + b) * 3 + p) 0) q) (word_of m r l) (place-of m r l)
          ∙ sym (shows-below columns count (m * 8 + r) (a * 8 + b) inside)
        where
          word_of : (m r : ℕ) → r < 8 → m / 8 ≡ (m * 8 + r) / 64
          word_of m r l = omega arith

          place-of : (m r : ℕ) → r < 8 → m % 8 * 8 + r ≡ (m * 8 + r) % 64
          place-of m r l = omega arith

      small : byte < 2 ^ 8
      small = mod-lt _ (pow_pos 8)

      pub block_more : BlockTo (b + 1) (bit_or word put)
      block_more =
          record {
            within = omega arith;
            bits = λ c r l q. go c r l q (eqb c b) refl;
            high = λ k l q. new k (omega arith) q ∙ bit_past byte 8 (k - b * 8) small (omega arith);
          }
        where
          go : (c r : ℕ) → c < b + 1 → r < 8 → (t : Bool) → eqb c b ≡ t → bit (bit_or word put) (c * 8 + r) ≡ shown columns count (m * 8 + r) (a * 8 + c)
          go c r l q true s =
              let e : c ≡ b = eqb-true c b s in
              let d : c * 8 + r - b * 8 ≡ r = omega arith in
              new (c * 8 + r) (omega arith) (omega arith) ∙ ap (bit byte) d ∙ here r q ∙ ap (λ (z : ℕ). shown columns count (m * 8 + r) (a * 8 + z)) (sym e)
          go c r l q false s =
              let d : c < b = omega (arith, eqb-false c b s) in
              old (c * 8 + r) (omega arith) ∙ B.bits c r d q

  pub block-done : (b word : ℕ) → BlockTo b word → 8 ≤ b → BlockOf columns count m a word
  block-done b word B h = record { bits = λ c r l q. B.bits c r (omega arith) q }

-- ---- a band of eight rows
module _ (columns : List ℕ) (count m : ℕ) where
  pub record BandTo (a : ℕ) (band : List ℕ) : Type 0 where
    pub within : a ≤ 24
    pub long : length band ≡ 24
    pub bits : (r j : ℕ) → r < 8 → j < a * 8 → bit (get_or band (j / 8) 0) (r * 8 + j % 8) ≡ shown columns count (m * 8 + r) j

  pub band-none : (band : List ℕ) → length band ≡ 24 → BandTo 0 band
  band-none band h = record { within = omega arith; long = h; bits = λ r j l q. absurd (omega arith) }

  pub band-more :
      (a : ℕ) (band : List ℕ) (word turned : ℕ) → BandTo a band → a < 24 → BlockOf columns count m a word → Transposed word turned
      → BandTo (a + 1) (set band a turned)
  band-more a band word turned B h W T =
      record {
        within = omega arith;
        long = length-set band a turned ∙ B.long;
        bits = λ r j l q. go r j l q (eqb (j / 8) a) refl;
      }
    where
      go :
          (r j : ℕ) → r < 8 → j < (a + 1) * 8 → (t : Bool) → eqb (j / 8) a ≡ t
          → bit (get_or (set band a turned) (j / 8) 0) (r * 8 + j % 8) ≡ shown columns count (m * 8 + r) j
      go r j l q true s =
          let e : j / 8 ≡ a = eqb-true (j / 8) a s in
          let d : a * 8 + j % 8 ≡ j = omega arith in
          ap (λ (z : ℕ). bit (get_or (set band a turned) z 0) (r * 8 + j % 8)) e
          ∙ ap (λ (z : ℕ). bit z (r * 8 + j % 8)) (get_or-set_same band a turned 0 (omega (arith, B.long)))
          ∙ T.bits r (j % 8) l (omega arith) ∙ W.bits (j % 8) r (omega arith) l
          ∙ ap (shown columns count (m * 8 + r)) d
      go r j l q false s =
          let ne : j / 8 ≡ a → ⊥ = eqb-false (j / 8) a s in
          ap (λ (z : ℕ). bit z (r * 8 + j % 8)) (get_or-set_other band a (j / 8) turned 0 ne) ∙ B.bits r j l (omega arith)

  pub band-done : (a : ℕ) (band : List ℕ) → BandTo a band → 24 ≤ a → BandOf columns count m band
  band-done a band B h = record { long = B.long; bits = λ r j l q. B.bits r j l (omega arith) }

-- ---- which band is at hand
module _ (columns : List ℕ) (count : ℕ) (band : List ℕ) where
  pub banded-first : length band ≡ 24 → Banded columns count 0 band
  banded-first h = record { long = h; of = λ ne. absurd (ne refl) }

  pub banded-next : (i : ℕ) → BandOf columns count (i / 8) band → Banded columns count (i + 1) band
  banded-next i B = record { long = B.long; of = λ ne. subst (λ (z : ℕ). BandOf columns count z band) (same ne) B }
    where
      same : ((i + 1) % 8 ≡ 0 → ⊥) → i / 8 ≡ (i + 1) / 8
      same ne = omega arith
