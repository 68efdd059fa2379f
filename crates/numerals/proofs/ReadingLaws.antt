-- Reading bytes and numbers: what is left of it after i bytes.
use Prim.Native.Nat.{ℕ, suc, ◌+◌, ◌-◌, ◌*◌, ◌<◌, ◌≤◌}
use mathlib.Core.Path.{◌≡◌, refl, sym, ◌∙◌}
use mathlib.Core.List.{List, [], ◌∷◌, ◌++◌}
use mathlib.Core.Bool.{Bool, true, false}
use native.Mathlib.Omega.{arith}
use native.Mathlib.Numerals.{add-one}
use lib.Dec.{eqb, ltb}
use lib.ListN.{length, get_or, drop, drop_of_length-le}
use lib.Seq.{drop-cons}
use borrow.Author.Tests.{lt-ltb, le-ltb, ltb-false, eq-eqb, ne_eqb, eqb-true}
use Rattle.subsumption.specs.Tables.{or, both}
use Rattle.numerals.specs.Bytes.{starts}
use Rattle.numerals.specs.Reading.{wrong_digit, run_from, run_of}

-- ---- the first bytes agree
module _ (key rest : List ℕ) where
  pub record Agree (i : ℕ) : Type 0 where
    pub within-key : i ≤ length key
    pub within-rest : i ≤ length rest
    pub left : starts key rest ≡ starts (drop i key) (drop i rest)

  pub agree-none : Agree 0
  agree-none = record { within-key = omega arith; within-rest = omega arith; left = refl }

  pub agree-short : (i : ℕ) → Agree i → i < length key → length rest ≤ i → false ≡ starts key rest
  unfolding starts
  agree-short i s h l = sym (s.left ∙ rw (drop-cons key i 0 h, drop_of_length-le rest l) refl)

  split : (i : ℕ) → Agree i → i < length key → i < length rest
      → starts key rest ≡ both (eqb (get_or rest i 0) (get_or key i 0)) (starts (drop (suc i) key) (drop (suc i) rest))
  unfolding starts
  split i s h l = s.left ∙ rw (drop-cons key i 0 h, drop-cons rest i 0 l) refl

  pub agree_differ : (i : ℕ) → Agree i → i < length key → i < length rest → (get_or rest i 0 ≡ get_or key i 0 → ⊥) → false ≡ starts key rest
  unfolding both
  agree_differ i s h l d = sym (split i s h l ∙ rw (ne_eqb _ _ d) refl)

  pub agree-more : (i : ℕ) → Agree i → i < length key → i < length rest → get_or rest i 0 ≡ get_or key i 0 → Agree (i + 1)
  unfolding both
  agree-more i s h l e =
      record {
        within-key = omega arith;
        within-rest = omega arith;
        left = split i s h l ∙ rw (eq-eqb _ _ e, add-one) refl;
      }

  pub agree-done : (i : ℕ) → Agree i → length key ≤ i → true ≡ starts key rest
  unfolding starts
  agree-done i s h = sym (s.left ∙ rw (drop_of_length-le key h) refl)

-- ---- the bytes in front
pub starts-front : (key rest : List ℕ) → starts key rest ≡ true → rest ≡ key ++ drop (length key) rest
unfolding starts both
starts-front [] rest e = refl
starts-front (k ∷ key) [] e = absurd (let z : ◌≡◌ {A = ℕ} 0 1 = cc in omega arith)
starts-front (k ∷ key) (b ∷ rest) e = go (eqb b k) refl (starts-front key rest)
  where
    go : (x : Bool) → eqb b k ≡ x → (starts key rest ≡ true → rest ≡ key ++ drop (length key) rest) → b ∷ rest ≡ k ∷ (key ++ drop (length key) rest)
    go true p ih = cc (eqb-true b k p, ih (rw p at e))
    go false p ih = absurd (let q : false ≡ true = rw p at e in let z : ◌≡◌ {A = ℕ} 0 1 = cc in omega arith)

pub starts-right : (key more : List ℕ) → starts key (key ++ more) ≡ true
unfolding starts both
starts-right [] more = refl
starts-right (k ∷ key) more = rw (eq-eqb k k refl) (starts-right key more)

-- ---- a byte that cannot go on a number
module _ (value count b : ℕ) where
  pub wrong-low : b < 48 → true ≡ wrong_digit value count b
  unfolding wrong_digit or
  wrong-low h = rw (lt-ltb b 48 h)

  pub wrong-high : 48 ≤ b → 57 < b → true ≡ wrong_digit value count b
  unfolding wrong_digit or
  wrong-high h k = rw (le-ltb b 48 h, lt-ltb 57 b k)

  pub wrong-zero : 48 ≤ b → b ≤ 57 → (count ≡ 0 → ⊥) → value ≡ 0 → true ≡ wrong_digit value count b
  unfolding wrong_digit or both
  wrong-zero h k l e = rw (le-ltb b 48 h, le-ltb 57 b k, lt-ltb 0 count (omega arith), eq-eqb value 0 e)

  pub wrong-large-after : 48 ≤ b → b ≤ 57 → (count ≡ 0 → ⊥) → (value ≡ 0 → ⊥) → ltb 65535 (value * 10 + (b - 48)) ≡ wrong_digit value count b
  unfolding wrong_digit or both
  wrong-large-after h k l e = rw (le-ltb b 48 h, le-ltb 57 b k, lt-ltb 0 count (omega arith), ne_eqb value 0 e)

  pub wrong-large-first : 48 ≤ b → b ≤ 57 → count ≡ 0 → ltb 65535 (value * 10 + (b - 48)) ≡ wrong_digit value count b
  unfolding wrong_digit or both
  wrong-large-first h k l = rw (le-ltb b 48 h, le-ltb 57 b k, le-ltb 0 count (omega arith))

  pub record Digit : Type 0 where
    pub low : 48 ≤ b
    pub high : b ≤ 57
    pub small : value * 10 + (b - 48) ≤ 65535
    pub lead : 0 < count → value ≡ 0 → ⊥

  pub digit-right : wrong_digit value count b ≡ false → Digit
  unfolding wrong_digit or both
  digit-right e =
      record {
        low = ltb-false b 48 (first (ltb b 48) _ e);
        high = ltb-false 57 b (first (ltb 57 b) _ (second (ltb b 48) _ e));
        small = ltb-false 65535 _ (second (both (ltb 0 count) (eqb value 0)) _ (second (ltb 57 b) _ (second (ltb b 48) _ e)));
        lead = λ p z. clash _ _ (lt-ltb 0 count p) (eq-eqb value 0 z) (first (both (ltb 0 count) (eqb value 0)) _ (second (ltb 57 b) _ (second (ltb b 48) _ e)));
      }
    where
      first : (x y : Bool) → or x y ≡ false → x ≡ false
      first true y e = e
      first false y e = refl

      second : (x y : Bool) → or x y ≡ false → y ≡ false
      second true y e = cc
      second false y e = e

      clash : (x y : Bool) → x ≡ true → y ≡ true → both x y ≡ false → ⊥
      clash x y p q e = let z : ◌≡◌ {A = ℕ} 0 1 = cc (sym (rw (p, q) at e)) in omega arith

-- ---- a run of digits
module _ (value count b : ℕ) (rest : List ℕ) where
  pub run-wrong : wrong_digit value count b ≡ true → run_from value count (b ∷ rest) ≡ record { value = value; length = count }
  unfolding run_from
  run-wrong e = rw (e, run_from) refl

  pub run-right : wrong_digit value count b ≡ false → run_from value count (b ∷ rest) ≡ run_from (value * 10 + (b - 48)) (suc count) rest
  unfolding run_from
  run-right e = rw (e, run_from) refl

module _ (rest : List ℕ) where
  pub record Counted (value n : ℕ) : Type 0 where
    pub within : n ≤ length rest
    pub small : value ≤ 65535
    pub left : run_of rest ≡ run_from value n (drop n rest)

  pub counted_none : Counted 0 0
  counted_none = record { within = omega arith; small = omega arith; left = refl }

  pub counted-end : (value n : ℕ) → Counted value n → length rest ≤ n → record { value = value; length = n } ≡ run_of rest
  unfolding run_from
  counted-end value n s h = sym (s.left ∙ rw (drop_of_length-le rest h) refl)

  pub counted-wrong :
      (value n : ℕ) → Counted value n → n < length rest → (wrong : Bool) → wrong ≡ wrong_digit value n (get_or rest n 0) → wrong ≡ true
      → record { value = value; length = n } ≡ run_of rest
  counted-wrong value n s h wrong f e = sym (s.left ∙ rw (drop-cons rest n 0 h) (run-wrong value n (get_or rest n 0) (drop (suc n) rest) (sym f ∙ e)))

  pub counted-more :
      (value n : ℕ) → Counted value n → n < length rest → (wrong : Bool) → wrong ≡ wrong_digit value n (get_or rest n 0) → wrong ≡ false
      → Counted (value * 10 + (get_or rest n 0 - 48)) (n + 1)
  counted-more value n s h wrong f e =
      record {
        within = omega arith;
        small = (digit-right value n (get_or rest n 0) (sym f ∙ e)).small;
        left = s.left ∙ rw (drop-cons rest n 0 h, add-one) (run-right value n (get_or rest n 0) (drop (suc n) rest) (sym f ∙ e));
      }
