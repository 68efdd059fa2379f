-- Counting the marks of a table.
use Rattle.subsumption.specs.Refusal.{Done}
use Prim.Native.Nat.{ℕ, zero, suc, ◌+◌, ◌-◌, ◌*◌, ◌/◌, ◌%◌, ◌^◌, ◌<◌, ◌≤◌}
use mathlib.Core.Path.{◌≡◌, refl, sym, ap, ap₂, ◌∙◌, subst}
use mathlib.Core.List.{List}
use mathlib.Core.Bool.{Bool, true, false, not, true≢false}
use mathlib.Core.Logic.{⊎_elim}
use native.Mathlib.Omega.{arith}
use native.Mathlib.Nat.{pow-suc, mod-lt, suc-mul, one-mul, add-zero, mod-eq_of_lt}
use lib.Pow.{pow-lt, pow_mono, pow_pos}
use lib.Dec.{eqb}
use lib.Count.{ones, ones_step, ones-le}
use lib.ListN.{get_or}
use borrow.Author.Tests.{eq-eqb, ne_eqb, eqb-true}
use Rattle.subsumption.specs.Tables.{Tables, both, count_of}
use Rattle.subsumption.specs.Atoms.{bit}
use Rattle.subsumption.specs.Table.{marked, one, counted, total, marks_in, TableOf}
use Rattle.subsumption.specs.Check.{table_fault}
use Rattle.subsumption.specs.Inner.Columns.{has}
use Rattle.subsumption.specs.Inner.Rows.{Written}
use Rattle.subsumption.proofs.Bools.{both_true, both-intro, both-second, last-cases, le-or-lt, eq-or-ne}
use Rattle.subsumption.proofs.Bits.{bit-half, bit-mod, bit_past}
use Rattle.subsumption.proofs.Accepted.{well_formed}
use Rattle.subsumption.proofs.Blocks.{shows-below, shows-over}

-- ---- counting
pub counted_same : (f g : ℕ → Bool) (n : ℕ) → ((p : ℕ) → p < n → f p ≡ g p) → counted f n ≡ counted g n
unfolding counted
counted_same f g zero h = refl
counted_same f g (suc n) h = ap₂ ◌+◌ (ap one (h n (omega arith))) (counted_same f g n (λ p l. h p (omega arith)))

pub counted-front : (f : ℕ → Bool) (n : ℕ) → counted f (suc n) ≡ one (f 0) + counted (λ q. f (suc q)) n
unfolding counted
counted-front f zero = refl
counted-front f (suc n) = ap (λ (z : ℕ). one (f (suc n)) + z) (counted-front f n) ∙ swap (one (f (suc n))) (one (f 0)) (counted (λ q. f (suc q)) n)
  where
    swap : (a b c : ℕ) → a + (b + c) ≡ b + (a + c)
    swap a b c = omega arith

one-small : (b : Bool) → one b ≤ 1
unfolding one
one-small true = omega arith
one-small false = omega arith

pub counted-most : (f : ℕ → Bool) (n : ℕ) → counted f n ≤ n
unfolding counted
counted-most f zero = omega arith
counted-most f (suc n) = omega (arith, one-small (f n), counted-most f n)

pub counted_none : (f : ℕ → Bool) (n : ℕ) → ((p : ℕ) → p < n → f p ≡ false) → counted f n ≡ 0
unfolding counted one
counted_none f zero h = refl
counted_none f (suc n) h = omega (arith, ap one (h n (omega arith)), counted_none f n (λ p l. h p (omega arith)))

counted-some : (f : ℕ → Bool) (n p : ℕ) → p < n → f p ≡ true → 1 ≤ counted f n
unfolding counted one
counted-some f zero p l e = absurd (omega arith)
counted-some f (suc n) p l e =
    ⊎_elim (λ (q : p ≡ n). omega (arith, ap one (subst (λ (z : ℕ). f z ≡ true) q e))) (λ u. omega (arith, counted-some f n p u e)) (last-cases p n l)

module _ (f g : ℕ → Bool) where
  one-le : (p : ℕ) → (f p ≡ true → g p ≡ true) → one (f p) ≤ one (g p)
  unfolding one
  one-le p h = go (f p) refl (g p) refl
    where
      go : (a : Bool) → f p ≡ a → (b : Bool) → g p ≡ b → one (f p) ≤ one (g p)
      go true e true k = omega (arith, ap one e, ap one k)
      go true e false k = absurd (true≢false (sym (h e) ∙ k))
      go false e b k = omega (arith, ap one e)

  pub counted-le : (n : ℕ) → ((p : ℕ) → p < n → f p ≡ true → g p ≡ true) → counted f n ≤ counted g n
  unfolding counted
  counted-le zero h = omega arith
  counted-le (suc n) h = omega (arith, one-le n (h n (omega arith)), counted-le n (λ p l. h p (omega arith)))

  pub counted-less : (n p : ℕ) → p < n → f p ≡ false → g p ≡ true → ((q : ℕ) → q < n → f q ≡ true → g q ≡ true) → counted f n < counted g n
  unfolding counted one
  counted-less zero p l e k h = absurd (omega arith)
  counted-less (suc n) p l e k h =
      ⊎_elim
      (λ (q : p ≡ n).
      omega (arith, ap one (subst (λ (z : ℕ). f z ≡ false) q e), ap one (subst (λ (z : ℕ). g z ≡ true) q k), counted-le n (λ r m. h r (omega arith))))
      (λ m. omega (arith, one-le n (h n (omega arith)), counted-less n p m e k (λ r x. h r (omega arith))))
      (last-cases p n l)

total-le : (f g : ℕ → ℕ) (n : ℕ) → ((j : ℕ) → j < n → f j ≤ g j) → total f n ≤ total g n
unfolding total
total-le f g zero h = omega arith
total-le f g (suc n) h = omega (arith, h n (omega arith), total-le f g n (λ j l. h j (omega arith)))

total-less : (f g : ℕ → ℕ) (n p : ℕ) → p < n → f p < g p → ((j : ℕ) → j < n → f j ≤ g j) → total f n < total g n
unfolding total
total-less f g zero p l k h = absurd (omega arith)
total-less f g (suc n) p l k h =
    ⊎_elim (λ (q : p ≡ n). omega (arith, subst (λ (z : ℕ). f z < g z) q k, total-le f g n (λ j u. h j (omega arith))))
    (λ u. omega (arith, h n (omega arith), total-less f g n p u k (λ j w. h j (omega arith)))) (last-cases p n l)

total-same : (f g : ℕ → ℕ) (n : ℕ) → ((j : ℕ) → j < n → f j ≡ g j) → total f n ≡ total g n
unfolding total
total-same f g zero h = refl
total-same f g (suc n) h = ap₂ ◌+◌ (h n (omega arith)) (total-same f g n (λ j l. h j (omega arith)))

total-past : (f : ℕ → ℕ) (n more : ℕ) → ((j : ℕ) → n ≤ j → j < n + more → f j ≡ 0) → total f (n + more) ≡ total f n
unfolding total
total-past f n zero h = let e : n + 0 ≡ n = omega arith in ap (total f) e
total-past f n (suc more) h =
    let e : n + suc more ≡ suc (n + more) = omega arith in
    ap (total f) e ∙ none (h (n + more) (omega arith) (omega arith)) (total-past f n more (λ j l u. h j l (omega arith)))
  where
    none : {a b c : ℕ} → a ≡ 0 → b ≡ c → a + b ≡ c
    none x y = omega arith

-- ---- distinct pairs that pass a test are at most the pairs that do
module _ (rows columns : ℕ) where
  abbrev pairs_of : (ℕ → ℕ → Bool) → ℕ
  pairs_of test = total (λ j. counted (λ i. test i j) rows) columns

  -- the test without one pair
  abbrev without : (ℕ → ℕ → Bool) → ℕ → ℕ → ℕ → ℕ → Bool
  without test x y i j = both (test i j) (not (both (eqb i x) (eqb j y)))

  without-less : (test : ℕ → ℕ → Bool) (x y : ℕ) → x < rows → y < columns → test x y ≡ true → pairs_of (without test x y) < pairs_of test
  without-less test x y l h e =
      total-less _ _ columns y h (counted-less _ _ rows x l gone e (λ i u k. (both_true _ _ k).0)) (λ j u. counted-le _ _ rows (λ i w k. (both_true _ _ k).0))
    where
      gone : without test x y x y ≡ false
      gone = both-second (test x y) _ (ap not (both-intro _ _ (eq-eqb x x refl) (eq-eqb y y refl)))

  pub distinct-few :
      (n : ℕ) (x y : ℕ → ℕ) (test : ℕ → ℕ → Bool) → ((k : ℕ) → k < n → (x k < rows) × (y k < columns) × (test (x k) (y k) ≡ true))
      → ((k m : ℕ) → k < m → m < n → x k ≡ x m → y k ≡ y m → ⊥) → n ≤ pairs_of test
  distinct-few zero x y test each once = omega arith
  distinct-few (suc n) x y test each once =
      let (l, h, e) = each n (omega arith) in
      omega (arith, without-less test (x n) (y n) l h e, distinct-few n x y (without test (x n) (y n)) still (λ k m u w. once k m u (omega arith)))
    where
      still : (k : ℕ) → k < n → (x k < rows) × (y k < columns) × (without test (x n) (y n) (x k) (y k) ≡ true)
      still k u =
          let (l, h, e) = each k (omega arith) in
          (l, h, both-intro _ _ e (other (both (eqb (x k) (x n)) (eqb (y k) (y n))) refl))
        where
          other : (b : Bool) → both (eqb (x k) (x n)) (eqb (y k) (y n)) ≡ b → not (both (eqb (x k) (x n)) (eqb (y k) (y n))) ≡ true
          other true s = absurd (let (p, q) = both_true _ _ s in once k n u (omega arith) (eqb-true (x k) (x n) p) (eqb-true (y k) (y n) q))
          other false s = ap not s

-- ---- the ones of a word
bit-one : (x : ℕ) → one (bit x 0) ≡ x % 2
unfolding bit one
bit-one x = ⊎_elim (λ (h : x % 2 ≡ 1). ap one (eq-eqb (x / 2 ^ 0 % 2) 1 (omega arith)) ∙ sym h) (λ h. ap one (ne_eqb (x / 2 ^ 0 % 2) 1 (λ e. omega arith)) ∙ even h) (eq-or-ne (x % 2) 1)
  where
    even : (x % 2 ≡ 1 → ⊥) → 0 ≡ x % 2
    even h = ⊎_elim (λ (e : x % 2 ≡ 0). sym e) (λ n. absurd (h (omega arith))) (eq-or-ne (x % 2) 0)

ones-bits : (n x : ℕ) → x < 2 ^ n → ones x ≡ counted (bit x) n
unfolding counted
ones-bits zero x h = omega (arith, ones-le 0 x h)
ones-bits (suc n) x h =
    let half : x / 2 < 2 ^ n = omega (arith, pow-suc 2 n) in
    ones_step x ∙ ap₂ ◌+◌ (sym (bit-one x)) (ones-bits n (x / 2) half ∙ counted_same _ _ n (λ q l. bit-half x q)) ∙ sym (counted-front (bit x) n)

pub ones-all : (x n : ℕ) → x < 2 ^ 64 → 64 ≤ n → ones x ≡ counted (bit x) n
ones-all x n h l = ones-bits n x (omega (arith, h, pow_mono {i = 64} {j = n} l))

ones_low : (x n : ℕ) → ones (x % 2 ^ n) ≡ counted (bit x) n
ones_low x n = ones-bits n (x % 2 ^ n) (mod-lt x (pow_pos n)) ∙ counted_same _ _ n (λ q l. bit-mod x n q l)

pub shifted : (n : ℕ) → n < 64 → 1 * 2 ^ n % 18446744073709551616 ≡ 2 ^ n
shifted n l = mod-eq_of_lt (subst (λ (z : ℕ). z < 18446744073709551616) (sym (one-mul (2 ^ n))) (pow-lt l)) ∙ one-mul (2 ^ n)

pub shifted-pos : (n : ℕ) → n < 64 → 0 < 1 * 2 ^ n % 18446744073709551616
shifted-pos n l = omega (arith, shifted n l, pow_pos n)

pub ones-part : (x n : ℕ) → n < 64 → ones (x % (1 * 2 ^ n % 18446744073709551616)) ≡ counted (bit x) n
ones-part x n l = ap (λ (z : ℕ). ones (x % z)) (shifted n l) ∙ ones_low x n

pub part-few : (x n : ℕ) → n < 64 → ones (x % (1 * 2 ^ n % 18446744073709551616)) ≤ 64
part-few x n l = omega (arith, ones-part x n l, counted-most (bit x) n)

-- ---- a column, by its three words
module _ (columns : List ℕ) (j : ℕ) (low : (p : ℕ) → get_or columns p 0 < 2 ^ 64) where
  abbrev word : ℕ → ℕ
  word part = get_or columns (j * 3 + part) 0

  abbrev three : ℕ → ℕ
  three n = counted (bit (word 0)) n + counted (bit (word 1)) (n - 64) + counted (bit (word 2)) (n - 128)

  in-part : (part n : ℕ) → n / 64 ≡ part → one (bit (word part) (n % 64)) ≡ one (has columns n j)
  unfolding has
  in-part part n e = ap (λ (z : ℕ). one (bit (word z) (n % 64))) (sym e)

  grown : (part n : ℕ) → counted (bit (word part)) (n + 1) ≡ one (bit (word part) n) + counted (bit (word part)) n
  unfolding counted
  grown part n = let e : n + 1 ≡ suc n = omega arith in ap (counted (bit (word part))) e

  full : (part n : ℕ) → 64 ≤ n → counted (bit (word part)) (n + 1) ≡ counted (bit (word part)) n
  unfolding one
  full part n l = grown part n ∙ ap (λ (z : ℕ). z + counted (bit (word part)) n) (ap one (bit_past (word part) 64 n (low _) l)) ∙ left _
    where
      left : (a : ℕ) → 0 + a ≡ a
      left a = omega arith

  same_count : (part m n : ℕ) → m ≡ n → counted (bit (word part)) m ≡ counted (bit (word part)) n
  same_count part m n e = ap (counted (bit (word part))) e

  same_bit : (part m n : ℕ) → m ≡ n → one (bit (word part) m) ≡ one (bit (word part) n)
  same_bit part m n e = ap (λ (z : ℕ). one (bit (word part) z)) e

  step : (n : ℕ) → n < 192 → three (n + 1) ≡ one (has columns n j) + three n
  step n l = ⊎_elim (λ (h : 64 ≤ n). ⊎_elim (third h) (λ k. second h k) (le-or-lt 128 n)) first (le-or-lt 64 n)
    where
      first : n < 64 → three (n + 1) ≡ one (has columns n j) + three n
      first h =
          omega (arith, grown 0 n, same_count 1 (n + 1 - 64) (n - 64) (omega arith), same_count 2 (n + 1 - 128) (n - 128) (omega arith), in-part 0 n (omega arith), same_bit 0 n (n % 64) (omega arith))

      second : 64 ≤ n → n < 128 → three (n + 1) ≡ one (has columns n j) + three n
      second h k =
          omega (arith, full 0 n h, same_count 1 (n + 1 - 64) (n - 64 + 1) (omega arith), grown 1 (n - 64), same_count 2 (n + 1 - 128) (n - 128) (omega arith), in-part 1 n (omega arith), same_bit 1 (n - 64) (n % 64) (omega arith))

      third : 64 ≤ n → 128 ≤ n → three (n + 1) ≡ one (has columns n j) + three n
      third h k =
          omega (arith, full 0 n h, same_count 1 (n + 1 - 64) (n - 64 + 1) (omega arith), full 1 (n - 64) (omega arith), same_count 2 (n + 1 - 128) (n - 128 + 1) (omega arith), grown 2 (n - 128), in-part 2 n (omega arith), same_bit 2 (n - 128) (n % 64) (omega arith))

  column-ones : (n : ℕ) → n ≤ 192 → counted (λ i. has columns i j) n ≡ three n
  unfolding counted
  column-ones zero h = refl
  column-ones (suc n) h = ap (λ (z : ℕ). one (has columns n j) + z) (column-ones n (omega arith)) ∙ sym (step n (omega arith)) ∙ whole
    where
      whole : three (n + 1) ≡ three (suc n)
      whole = let e : n + 1 ≡ suc n = omega arith in ap three e

  pub ones-column :
      (count a b c x y : ℕ) → count ≤ 192 → a ≡ counted (bit (get_or columns (j * 3) 0)) count → x ≡ count - 64
      → b ≡ counted (bit (get_or columns (j * 3 + 1) 0)) x → y ≡ count - 128 → c ≡ counted (bit (get_or columns (j * 3 + 2) 0)) y
      → a + b + c ≡ counted (λ i. has columns i j) count
  ones-column count a b c x y h ea ex eb ey ec =
      ap₂ ◌+◌
      (ap₂ ◌+◌ (ea ∙ ap (λ (z : ℕ). counted (bit (get_or columns z 0)) count) (sym (add-zero (j * 3)))) (eb ∙ ap (counted (bit (word 1))) ex))
      (ec ∙ ap (counted (bit (word 2))) ey)
      ∙ sym (column-ones count h)

-- ---- the walk over the columns
pub record PairsTo (columns : List ℕ) (count j pairs : ℕ) : Type 0 where
  pub within : j ≤ count
  pub so_far : pairs ≡ total (λ q. counted (λ i. has columns i q) count) j
  pub few : pairs ≤ j * 192

module _ (columns : List ℕ) (count : ℕ) where
  pub pairs-none : PairsTo columns count 0 0
  unfolding total
  pairs-none = record { within = omega arith; so_far = refl; few = omega arith }

  pub pairs-more : (j pairs ones : ℕ) → j < count → PairsTo columns count j pairs → ones ≡ counted (λ i. has columns i j) count → ones ≤ 192 → PairsTo columns count (j + 1) (pairs + ones)
  unfolding total
  pairs-more j pairs ones l P e few =
      let s : j + 1 ≡ suc j = omega arith in
      record {
        within = omega arith;
        so_far = turned e P.so_far ∙ sym (ap (total (λ q. counted (λ i. has columns i q) count)) s);
        few = omega (arith, P.few);
      }
    where
      turned : {a b c d : ℕ} → a ≡ b → c ≡ d → c + a ≡ b + d
      turned x y = omega arith

  pub pairs-done : (j pairs : ℕ) → PairsTo columns count j pairs → count ≤ j → pairs ≡ total (λ q. counted (λ i. has columns i q) count) count
  pairs-done j pairs P l = let e : j ≡ count = omega (arith, P.within) in P.so_far ∙ ap (total (λ q. counted (λ i. has columns i q) count)) e

-- ---- the marks written are the pairs counted
pub marks-counted : (columns : List ℕ) (count : ℕ) (before after : List ℕ) → count ≤ 192 → Written columns count before after
    → total (λ j. counted (λ i. has columns i j) count) count ≡ marks_in count after
unfolding marks_in
marks-counted columns count before after few W =
    total-same _ _ count (λ j l. counted_same _ _ count (λ i h. sym (W.bits i j h (omega arith) ∙ shows-below columns count i j l)))
    ∙ sym (ap (total (λ j. counted (λ i. marked after i j) count)) whole ∙ total-past _ count (192 - count) (λ j l h. counted_none _ count (λ i k. W.bits i j k (omega arith) ∙ shows-over columns count i j l)))
  where
    whole : 192 ≡ count + (192 - count)
    whole = omega arith

-- ---- between the number of concepts and its square
total-between : (f : ℕ → ℕ) (n most : ℕ) → ((j : ℕ) → j < n → (1 ≤ f j) × (f j ≤ most)) → (n ≤ total f n) × (total f n ≤ n * most)
unfolding total
total-between f zero most h = (omega arith, omega arith)
total-between f (suc n) most h =
    let (low, high) = h n (omega arith) in
    let (u, w) = total-between f n most (λ j l. h j (omega arith)) in
    (omega arith, omega (arith, suc-mul n most))

-- The number of marks of a table lies between the number of concepts and its square.
pub marks-between : (t : Tables) (assignment before after : List ℕ) → table_fault t ≡ Done → TableOf t assignment before after
    → (count_of t.concepts ≤ marks_in (count_of t.concepts) after) × (marks_in (count_of t.concepts) after ≤ count_of t.concepts * count_of t.concepts)
unfolding marks_in
marks-between t assignment before after ok T =
    let few = (well_formed t ok).few in
    let count = count_of t.concepts in
    let e : total (λ j. counted (λ i. marked after i j) count) 192 ≡ total (λ j. counted (λ i. marked after i j) count) count
    = ap (total (λ j. counted (λ i. marked after i j) count)) (whole count few) ∙ total-past _ count (192 - count) (λ j l h. counted_none _ count (λ i k. T.zero i j k l (omega arith))) in
    let (u, w) = total-between (λ j. counted (λ i. marked after i j) count) count count
    (λ j l. (counted-some (λ i. marked after i j) count j l (T.complete j j l l (λ I o x h m. m)), counted-most (λ i. marked after i j) count)) in
    (omega (arith, e, u), omega (arith, e, w))
  where
    whole : (n : ℕ) → n ≤ 192 → 192 ≡ n + (192 - n)
    whole n l = omega arith

-- Without concepts there is none.
pub marks-none : (bytes : List ℕ) → marks_in 0 bytes ≡ 0
unfolding marks_in counted total
marks-none bytes = total-past (λ j. counted (λ i. marked bytes i j) 0) 0 192 (λ j l h. refl)
