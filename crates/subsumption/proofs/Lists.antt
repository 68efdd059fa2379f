-- Numbers put in front of a buffer, and marked ids listed there.
use Prim.Native.Nat.{ℕ, zero, suc, ◌+◌, ◌<◌, ◌≤◌}
use mathlib.Core.Path.{◌≡◌, refl, ap, ◌∙◌, subst}
use mathlib.Core.List.{List, [], ◌∷◌, ◌++◌, append_assoc}
use mathlib.Core.Bool.{Bool, true, false}
use native.Mathlib.Omega.{arith}
use native.Mathlib.Numerals.{add-one}
use native.Mathlib.Nat.{zero-add, eq-or-lt_of_le}
use mathlib.Core.Logic.{⊎_elim}
use lib.ListN.{length, take, set, length-append, length-set}
use lib.Seq.{set-append_seam, drop-cons, take-suc-set}
use Rattle.subsumption.specs.Atoms.{keep}
use Rattle.subsumption.specs.Inner.Atoms.{in_front}

pub front-more : (xs before : List ℕ) (v : ℕ) → length xs < length before → set (in_front xs before) (length xs) v ≡ in_front (xs ++ (v ∷ [])) before
front-more xs before v h =
    rw (drop-cons before (length xs) 0 h, set-append_seam, append_assoc)
    (rw (length-append xs (v ∷ []), add-one) refl)

-- ---- numbers behind those before
take-set : (k i : ℕ) (l : List ℕ) (v : ℕ) → k ≡ suc i → i < length l → take k (set l i v) ≡ take i l ++ (v ∷ [])
take-set k i l v e h = rw e (take-suc-set l i v h)

pub take-two : (m k a b : ℕ) (l : List ℕ) → k ≡ m + 2 → m + 1 < length l → take k (set (set l m a) (m + 1) b) ≡ take m l ++ (a ∷ b ∷ [])
take-two m k a b l e h =
    take-set k (m + 1) (set l m a) b (omega arith) (rw length-set h)
    ∙ ap (λ (z : List ℕ). z ++ (b ∷ [])) (take-set (m + 1) m l a (omega arith) (omega arith)) ∙ append_assoc (take m l) (a ∷ []) (b ∷ [])

pub take-three : (m k a b c : ℕ) (l : List ℕ) → k ≡ m + 3 → m + 2 < length l → take k (set (set (set l m a) (m + 1) b) (m + 2) c) ≡ take m l ++ (a ∷ b ∷ c ∷ [])
take-three m k a b c l e h =
    take-set k (m + 2) (set (set l m a) (m + 1) b) c (omega arith) (simp length-set h)
    ∙ ap (λ (z : List ℕ). z ++ (c ∷ [])) (take-two m (m + 2) a b l refl (omega arith)) ∙ append_assoc (take m l) (a ∷ b ∷ []) (c ∷ [])

module _ (test : ℕ → Bool) where
  snoc-yes : (from count : ℕ) → test (from + count) ≡ true → keep test from (suc count) ≡ keep test from count ++ ((from + count) ∷ [])
  unfolding keep
  snoc-yes from zero h = let e : from + 0 ≡ from = omega arith in rw (rw e at h, e) refl
  snoc-yes from (suc count) h = go (snoc-yes (suc from) count (subst (λ (z : ℕ). test z ≡ true) shift h)) (test from) refl
    where
      shift : from + suc count ≡ suc from + count
      shift = omega arith

      go :
          keep test (suc from) (suc count) ≡ keep test (suc from) count ++ ((suc from + count) ∷ []) → (b : Bool) → test from ≡ b
          → keep test from (suc (suc count)) ≡ keep test from (suc count) ++ ((from + suc count) ∷ [])
      go ih true e = rw (e, shift) (ap (λ (z : List ℕ). from ∷ z) ih)
      go ih false e = rw (e, shift) ih

  snoc-no : (from count : ℕ) → test (from + count) ≡ false → keep test from (suc count) ≡ keep test from count
  unfolding keep
  snoc-no from zero h = let e : from + 0 ≡ from = omega arith in rw (rw e at h) refl
  snoc-no from (suc count) h = go (snoc-no (suc from) count (subst (λ (z : ℕ). test z ≡ false) shift h)) (test from) refl
    where
      shift : from + suc count ≡ suc from + count
      shift = omega arith

      go : keep test (suc from) (suc count) ≡ keep test (suc from) count → (b : Bool) → test from ≡ b → keep test from (suc (suc count)) ≡ keep test from (suc count)
      go ih true e = rw e (ap (λ (z : List ℕ). from ∷ z) ih)
      go ih false e = rw e ih

  pub keep-yes : (p : ℕ) → test p ≡ true → keep test 0 (p + 1) ≡ keep test 0 p ++ (p ∷ [])
  keep-yes p h = rw add-one (subst (λ (z : ℕ). keep test 0 (suc p) ≡ keep test 0 p ++ (z ∷ [])) (zero-add p) (snoc-yes 0 p (rw zero-add h)))

  pub keep-no : (p : ℕ) → test p ≡ false → keep test 0 (p + 1) ≡ keep test 0 p
  keep-no p h = rw add-one (snoc-no 0 p (rw zero-add h))

  pub keep-grows : (p q : ℕ) → p ≤ q → length (keep test 0 p) ≤ length (keep test 0 q)
  keep-grows p zero h = let e : p ≡ 0 = omega arith in rw e (omega arith)
  keep-grows p (suc q) h = ⊎_elim (λ (e : p ≡ suc q). rw e (omega arith)) (λ l. omega (arith, keep-grows p q (omega arith), step (test q) refl)) (eq-or-lt_of_le h)
    where
      step : (b : Bool) → test q ≡ b → length (keep test 0 q) ≤ length (keep test 0 (suc q))
      step true e = subst (λ (z : ℕ). length (keep test 0 q) ≤ length (keep test 0 z)) (add-one q) (rw (keep-yes q e, length-append) (omega arith))
      step false e = subst (λ (z : ℕ). length (keep test 0 q) ≤ length (keep test 0 z)) (add-one q) (rw (keep-no q e) (omega arith))

  pub count_none : 0 ≡ length (keep test 0 0)
  unfolding keep
  count_none = refl

  pub keep-le : (p : ℕ) → length (keep test 0 p) ≤ p
  keep-le zero = omega (arith, count_none)
  keep-le (suc p) = step (test p) refl (keep-le p)
    where
      step : (b : Bool) → test p ≡ b → length (keep test 0 p) ≤ p → length (keep test 0 (suc p)) ≤ suc p
      step true e l = subst (λ (z : ℕ). length (keep test 0 z) ≤ suc p) (add-one p) (rw (keep-yes p e, length-append) (omega arith))
      step false e l = subst (λ (z : ℕ). length (keep test 0 z) ≤ suc p) (add-one p) (rw (keep-no p e) (omega arith))

  -- ---- counting
  pub count_yes : (marked p : ℕ) → marked ≡ length (keep test 0 p) → test p ≡ true → marked + 1 ≡ length (keep test 0 (p + 1))
  count_yes marked p e h = rw (keep-yes p h, length-append) (omega arith)

  pub count_no : (marked p : ℕ) → marked ≡ length (keep test 0 p) → test p ≡ false → marked ≡ length (keep test 0 (p + 1))
  count_no marked p e h = rw (keep-no p h) e

  -- ---- listing
  pub record ListedTo (before out : List ℕ) (listed p : ℕ) : Type 0 where
    pub count : listed ≡ length (keep test 0 p)
    pub buffer : out ≡ in_front (keep test 0 p) before

  pub listed-none : (before : List ℕ) → ListedTo before before 0 0
  unfolding keep
  listed-none before = record { count = refl; buffer = refl }

  -- there is room for one more
  pub listed-room : (n p count : ℕ) → test p ≡ true → p < count → length (keep test 0 count) ≤ n → length (keep test 0 p) < n
  listed-room n p count h l k = omega (arith, count_yes (length (keep test 0 p)) p refl h, keep-grows (p + 1) count (omega arith))

  pub listed-yes : (before out : List ℕ) (listed p : ℕ) → ListedTo before out listed p → test p ≡ true → listed < length before → ListedTo before (set out listed p) (listed + 1) (p + 1)
  listed-yes before out listed p s h l =
      record {
        count = count_yes listed p s.count h;
        buffer = rw (s.buffer, s.count, keep-yes p h) (front-more (keep test 0 p) before p (omega (arith, s.count)));
      }

  pub listed-no : (before out : List ℕ) (listed p : ℕ) → ListedTo before out listed p → test p ≡ false → ListedTo before out listed (p + 1)
  listed-no before out listed p s h = record { count = count_no listed p s.count h; buffer = rw (keep-no p h) s.buffer }
