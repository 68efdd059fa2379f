-- Digits: how they grow, that a run reads a number from its digits, and that a run has the digits of its number.
use Prim.Native.Nat.{ℕ, zero, suc, ◌+◌, ◌-◌, ◌*◌, ◌/◌, ◌%◌, ◌^◌, ◌<◌, ◌≤◌}
use mathlib.Core.Path.{◌≡◌, refl, sym, ap, ◌∙◌, subst}
use mathlib.Core.List.{List, [], ◌∷◌, ◌++◌, append_assoc, append-nil}
use mathlib.Core.Bool.{Bool, true, false}
use native.Mathlib.Omega.{arith}
use native.Mathlib.Nat.{pow-suc}
use lib.Dec.{eqb, ltb}
use lib.ListN.{length, drop, length-append, drop_of_length-le}
use lib.Seq.{drop_at}
use borrow.Author.Tests.{lt-ltb, le-ltb, ltb-true, ltb-false, eqb-true}
use Rattle.subsumption.specs.Tables.{or, both}
use Rattle.numerals.specs.declared.reading.Run.{Run}
use Rattle.numerals.specs.Digits.{digits_to, digits}
use Rattle.numerals.specs.Reading.{wrong_digit, run_from, run_of}
use Rattle.numerals.proofs.ReadingLaws.{Digit, digit-right, run-wrong, run-right}

short : (more n : ℕ) → n < 10 → digits_to more n ≡ (48 + n) ∷ []
unfolding digits_to
short zero n h = refl
short (suc more) n h = rw (lt-ltb n 10 h, digits_to)

longer : (more n : ℕ) → 10 ≤ n → digits_to (suc more) n ≡ digits_to more (n / 10) ++ ((48 + n % 10) ∷ [])
unfolding digits_to
longer more n h = rw (le-ltb n 10 h, digits_to)

-- more room changes nothing
enough : (f g n : ℕ) → n ≤ f → n ≤ g → digits_to f n ≡ digits_to g n
enough zero g n h k = short 0 n (omega arith) ∙ sym (short g n (omega arith))
enough (suc f) zero n h k = short (suc f) n (omega arith) ∙ sym (short 0 n (omega arith))
enough (suc f) (suc g) n h k = go (ltb n 10) refl (λ q. enough f g (n / 10) (omega arith) (omega arith))
  where
    go : (b : Bool) → ltb n 10 ≡ b → (10 ≤ n → digits_to f (n / 10) ≡ digits_to g (n / 10)) → digits_to (suc f) n ≡ digits_to (suc g) n
    go true e ih = short (suc f) n (ltb-true n 10 e) ∙ sym (short (suc g) n (ltb-true n 10 e))
    go false e ih =
        longer f n (ltb-false n 10 e) ∙ ap (λ (z : List ℕ). z ++ ((48 + n % 10) ∷ [])) (ih (ltb-false n 10 e)) ∙ sym (longer g n (ltb-false n 10 e))

pub digits-one : (n : ℕ) → n < 10 → digits n ≡ (48 + n) ∷ []
unfolding digits
digits-one n h = short n n h

pub digits_more : (n : ℕ) → 10 ≤ n → digits n ≡ digits (n / 10) ++ ((48 + n % 10) ∷ [])
unfolding digits
digits_more zero h = absurd (omega arith)
digits_more (suc n) h = longer n (suc n) h ∙ ap (λ (z : List ℕ). z ++ ((48 + suc n % 10) ∷ [])) (enough n (suc n / 10) (suc n / 10) (omega arith) (omega arith))

pub digits-snoc : (v d : ℕ) → 0 < v → d < 10 → digits (v * 10 + d) ≡ digits v ++ ((48 + d) ∷ [])
digits-snoc v d h l =
    digits_more (v * 10 + d) (omega arith)
    ∙ (let q : (v * 10 + d) / 10 ≡ v = omega arith in let r : (v * 10 + d) % 10 ≡ d = omega arith in rw (q, r) refl)

pub digits-some : (n : ℕ) → 0 < length (digits n)
digits-some n = go (ltb n 10) refl
  where
    go : (b : Bool) → ltb n 10 ≡ b → 0 < length (digits n)
    go true e = rw (digits-one n (ltb-true n 10 e)) (omega arith)
    go false e = rw (digits_more n (ltb-false n 10 e), length-append) (omega arith)

-- so many digits are enough below a power of ten
pub digits-short : (k n : ℕ) → n < 10 ^ suc k → length (digits n) ≤ suc k
digits-short zero n h = let l : n < 10 = h in omega (arith, ap length (digits-one n l))
digits-short (suc k) n h = go (ltb n 10) refl (digits-short k (n / 10))
  where
    power : 10 ^ suc (suc k) ≡ 10 ^ suc k * 10
    power = pow-suc 10 (suc k)

    go : (b : Bool) → ltb n 10 ≡ b → (n / 10 < 10 ^ suc k → length (digits (n / 10)) ≤ suc k) → length (digits n) ≤ suc (suc k)
    go true e ih = omega (arith, ap length (digits-one n (ltb-true n 10 e)))
    go false e ih =
        omega (
          arith,
          ih (omega (arith, power)),
          ap length (digits_more n (ltb-false n 10 e)),
          length-append (digits (n / 10)) ((48 + n % 10) ∷ []),
        )

-- ---- the digits of a number are read

right-digit : (value count b : ℕ) → Digit value count b → wrong_digit value count b ≡ false
unfolding wrong_digit or both
right-digit value count b d =
    rw (le-ltb b 48 d.low, le-ltb 57 b d.high, le-ltb 65535 (value * 10 + (b - 48)) d.small) (go (ltb 0 count) (eqb value 0) refl refl)
  where
    go : (x y : Bool) → ltb 0 count ≡ x → eqb value 0 ≡ y → or (both (ltb 0 count) (eqb value 0)) false ≡ false
    go true true p q = absurd (d.lead (ltb-true 0 count p) (eqb-true value 0 q))
    go true false p q = rw (p, q)
    go false y p q = rw p

pub run-over-digits : (v : ℕ) (more : List ℕ) → v ≤ 65535 → run_of (digits v ++ more) ≡ run_from v (length (digits v)) more
run-over-digits v more small = go (suc v) v more (omega arith) small
  where
    step : (value count b next : ℕ) (more : List ℕ) → Digit value count b → value * 10 + (b - 48) ≡ next → run_from value count (b ∷ more) ≡ run_from next (suc count) more
    step value count b next more d e = run-right value count b more (right-digit value count b d) ∙ ap (λ (z : ℕ). run_from z (suc count) more) e

    go : (bound v : ℕ) (more : List ℕ) → v < bound → v ≤ 65535 → run_of (digits v ++ more) ≡ run_from v (length (digits v)) more
    go zero v more l s = absurd (omega arith)
    go (suc bound) v more l s = pick (ltb v 10) refl (λ q w. go bound (v / 10) w (omega arith) (omega arith))
      where
        pick :
            (b : Bool) → ltb v 10 ≡ b
            → (10 ≤ v → (w : List ℕ) → run_of (digits (v / 10) ++ w) ≡ run_from (v / 10) (length (digits (v / 10))) w)
            → run_of (digits v ++ more) ≡ run_from v (length (digits v)) more
        pick true e ih =
            let h : v < 10 = ltb-true v 10 e in
            rw (digits-one v h)
            (step 0 0 (48 + v) v more (record { low = omega arith; high = omega arith; small = omega arith; lead = λ p z. omega arith }) (omega arith))
        pick false e ih =
            let h : 10 ≤ v = ltb-false v 10 e in
            let l : suc (length (digits (v / 10))) ≡ length (digits (v / 10)) + 1 = omega arith in
            rw (digits_more v h, append_assoc, length-append)
            (ih h ((48 + v % 10) ∷ more)
            ∙ step (v / 10) (length (digits (v / 10))) (48 + v % 10) v more
            (record { low = omega arith; high = omega arith; small = omega arith; lead = λ p z. omega arith }) (omega arith)
            ∙ ap (λ (z : ℕ). run_from v z more) l)

pub run-of-digits : (v : ℕ) → v ≤ 65535 → run_of (digits v) ≡ record { value = v; length = length (digits v) }
unfolding run_from
run-of-digits v small = ap run_of (sym (append-nil (digits v))) ∙ run-over-digits v [] small

-- ---- a run has the digits of its number in front

-- the digits read so far
data Shown (front : List ℕ) (v n : ℕ) : Type 0 where
  nothing : front ≡ [] → v ≡ 0 → n ≡ 0 → Shown front v n
  some : front ≡ digits v → length front ≡ n → 0 < n → v ≤ 65535 → Shown front v n

shown-more : (front : List ℕ) (v n b : ℕ) → Shown front v n → Digit v n b → Shown (front ++ (b ∷ [])) (v * 10 + (b - 48)) (suc n)
shown-more front v n b (nothing e f g) d =
    let q : 48 + (v * 10 + (b - 48)) ≡ b = omega (arith, d.low) in
    some (rw e (sym (digits-one (v * 10 + (b - 48)) (omega (arith, d.high)) ∙ ap (λ (z : ℕ). z ∷ []) q))) (rw e (omega arith)) (omega arith) d.small
shown-more front v n b (some e l h s) d =
    let nonzero : v ≡ 0 → ⊥ = d.lead h in
    let q : 48 + (b - 48) ≡ b = omega (arith, d.low) in
    some (rw e (sym (digits-snoc v (b - 48) (omega arith) (omega (arith, d.high)) ∙ ap (λ (z : ℕ). digits v ++ (z ∷ [])) q))) (rw length-append (omega arith)) (omega arith) d.small

pub record Ran (rest : List ℕ) (r : Run) : Type 0 where
  pub within : r.length ≤ length rest
  pub small : r.value ≤ 65535
  pub front : 0 < r.length → rest ≡ digits r.value ++ drop r.length rest
  pub size : 0 < r.length → length (digits r.value) ≡ r.length

shown-ran : (front rest : List ℕ) (v n : ℕ) → Shown front v n → Ran (front ++ rest) (record { value = v; length = n })
shown-ran front rest v n (nothing e f g) =
    record { within = omega arith; small = omega arith; front = λ h. absurd (omega arith); size = λ h. absurd (omega arith) }
shown-ran front rest v n (some e l h s) =
    record {
      within = rw length-append (omega arith);
      small = s;
      front = λ q. ap (λ (z : List ℕ). z ++ rest) e ∙ ap (λ (z : List ℕ). digits v ++ z) (sym (drop_at front rest n l));
      size = λ q. sym (ap length e) ∙ l;
    }

ran : (rest front : List ℕ) (v n : ℕ) → Shown front v n → Ran (front ++ rest) (run_from v n rest)
unfolding run_from
ran [] front v n s = shown-ran front [] v n s
ran (b ∷ rest) front v n s = go (wrong_digit v n b) refl (ran rest (front ++ (b ∷ [])) (v * 10 + (b - 48)) (suc n))
  where
    go :
        (x : Bool) → wrong_digit v n b ≡ x
        → (Shown (front ++ (b ∷ [])) (v * 10 + (b - 48)) (suc n) → Ran ((front ++ (b ∷ [])) ++ rest) (run_from (v * 10 + (b - 48)) (suc n) rest))
        → Ran (front ++ (b ∷ rest)) (run_from v n (b ∷ rest))
    go true e ih = subst (λ (r : Run). Ran (front ++ (b ∷ rest)) r) (sym (run-wrong v n b rest e)) (shown-ran front (b ∷ rest) v n s)
    go false e ih =
        subst (λ (r : Run). Ran (front ++ (b ∷ rest)) r) (sym (run-right v n b rest e))
        (subst (λ (z : List ℕ). Ran z (run_from (v * 10 + (b - 48)) (suc n) rest)) (append_assoc front (b ∷ []) rest)
        (ih (shown-more front v n b s (digit-right v n b e))))

pub run_ran : (rest : List ℕ) → Ran rest (run_of rest)
run_ran rest = ran rest [] 0 0 (nothing refl refl refl)

pub run_small : (bytes : List ℕ) → (run_of bytes).value ≤ 65535
run_small bytes = (run_ran bytes).small

pub run-digits : (bytes : List ℕ) → 0 < (run_of bytes).length → (run_of bytes).length ≡ length bytes → bytes ≡ digits (run_of bytes).value
run-digits bytes h whole =
    (run_ran bytes).front h
    ∙ ap (λ (z : List ℕ). digits (run_of bytes).value ++ z) (drop_of_length-le bytes {i = (run_of bytes).length} (omega (arith, whole))) ∙ append-nil (digits (run_of bytes).value)
