-- Bits of choices: setting and clearing one, and choices that agree in every bit.
use Prim.Native.Nat.{ℕ, zero, suc, ◌+◌, ◌*◌, ◌/◌, ◌%◌, ◌^◌, ◌<◌, ◌≤◌}
use mathlib.Core.Path.{◌≡◌, sym, ap, ◌∙◌, subst}
use mathlib.Core.List.{List}
use mathlib.Core.Bool.{Bool, true, false, not}
use mathlib.Core.Logic.{⊎_elim}
use native.Mathlib.Omega.{arith}
use native.Mathlib.Nat.{mod-eq_of_lt}
use lib.Pow.{pow-lt}
use lib.Dec.{eqb}
use lib.Bits.{bit_or, bit_xor, xor_shr, xor_add_and}
use lib.ListN.{length, get_or, set, length-set}
use lib.Seq.{get_or-set_same, get_or-set_other}
use borrow.Author.Tests.{eqb-true, eq-eqb, ne_eqb}
use Rattle.subsumption.specs.Atoms.{bit}
use Rattle.subsumption.proofs.Bools.{eq-or-ne, le-or-lt, same_bool, both-none, both-skip}
use Rattle.subsumption.proofs.Bits.{bit_or_left, bit_or_right, bit-or-cases, bit-pow, bit-pow-other, bit-half}
use Rattle.matching.specs.Solving.{takes}
use Rattle.matching.specs.Inner.Search.Pairs.{Changed}
use Rattle.matching.specs.Inner.Search.Interval.{undecided}

-- ---- one bit of a number
pub one_bit : (q : ℕ) → q < 64 → 1 * 2 ^ q % 18446744073709551616 ≡ 2 ^ q
one_bit q h = let e : 1 * 2 ^ q ≡ 2 ^ q = omega arith in ap (λ (z : ℕ). z % 18446744073709551616) e ∙ mod-eq_of_lt (pow-lt h)

set_same : (x q : ℕ) → bit (bit_or x (2 ^ q)) q ≡ true
set_same x q = bit_or_right x (2 ^ q) q (bit-pow q)

set_other : (x q r : ℕ) → (r ≡ q → ⊥) → bit (bit_or x (2 ^ q)) r ≡ bit x r
set_other x q r n =
    same_bool _ _ (λ h. ⊎_elim (λ a. a) (λ b. absurd (n (bit-pow-other r q b))) (bit-or-cases x (2 ^ q) r h)) (λ h. bit_or_left x (2 ^ q) r h)

odd-sum : (a b : ℕ) → bit_xor a b % 2 ≡ (a + b) % 2
odd-sum a b = omega (arith, xor_add_and a b)

clear-same : (x q : ℕ) → bit x q ≡ true → bit (bit_xor x (2 ^ q)) q ≡ false
unfolding bit
clear-same x q h =
    let a : x / 2 ^ q % 2 ≡ 1 = eqb-true _ _ h in
    let b : 2 ^ q / 2 ^ q % 2 ≡ 1 = eqb-true _ _ (bit-pow q) in
    let e : bit_xor x (2 ^ q) / 2 ^ q % 2 ≡ 0 = ap (λ (z : ℕ). z % 2) (xor_shr x (2 ^ q) q) ∙ odd-sum (x / 2 ^ q) (2 ^ q / 2 ^ q) ∙ omega arith in
    ne_eqb (bit_xor x (2 ^ q) / 2 ^ q % 2) 1 (λ (k : bit_xor x (2 ^ q) / 2 ^ q % 2 ≡ 1). omega arith)

clear-other : (x q r : ℕ) → (r ≡ q → ⊥) → bit (bit_xor x (2 ^ q)) r ≡ bit x r
unfolding bit
clear-other x q r n =
    let b : (2 ^ q / 2 ^ r % 2 ≡ 1 → ⊥) = λ k. n (bit-pow-other r q (eq-eqb _ 1 k)) in
    let e : bit_xor x (2 ^ q) / 2 ^ r % 2 ≡ x / 2 ^ r % 2 = ap (λ (z : ℕ). z % 2) (xor_shr x (2 ^ q) r) ∙ odd-sum (x / 2 ^ r) (2 ^ q / 2 ^ r) ∙ omega arith in
    ap (λ (z : ℕ). eqb z 1) e

-- ---- one bit of a list of numbers
module _ (xs : List ℕ) (k q v : ℕ) (b : Bool) (long : length xs ≡ 8) (h : k < 8) where
  changed : bit v q ≡ b → ((r : ℕ) → (r ≡ q → ⊥) → bit v r ≡ bit (get_or xs k 0) r) → Changed xs (set xs k v) k q b
  changed f g =
      record {
        long = length-set xs k v ∙ long;
        here = ap (λ (z : ℕ). bit z q) (get_or-set_same xs k v 0 (omega (arith, long))) ∙ f;
        elsewhere =
            λ l r n.
            ⊎_elim
            (λ (e : l ≡ k). ap (λ (z : ℕ). bit (get_or (set xs k v) z 0) r) e ∙ ap (λ (z : ℕ). bit z r) (get_or-set_same xs k v 0 (omega (arith, long))) ∙ g r (λ w. n (e, w)) ∙ ap (λ (z : ℕ). bit (get_or xs z 0) r) (sym e))
            (λ e. ap (λ (z : ℕ). bit z r) (get_or-set_other xs k l v 0 e))
            (eq-or-ne l k);
      }

pub taken : (xs : List ℕ) (k q : ℕ) → length xs ≡ 8 → k < 8 → q < 64 → Changed xs (set xs k (bit_or (get_or xs k 0) (1 * 2 ^ q % 18446744073709551616))) k q true
taken xs k q long h l =
    subst (λ (z : ℕ). Changed xs (set xs k (bit_or (get_or xs k 0) z)) k q true) (sym (one_bit q l))
    (changed xs k q (bit_or (get_or xs k 0) (2 ^ q)) true long h (set_same (get_or xs k 0) q) (λ r n. set_other (get_or xs k 0) q r n))

pub left_out :
    (xs : List ℕ) (k q : ℕ) → length xs ≡ 8 → k < 8 → q < 64 → takes xs k q ≡ true
    → Changed xs (set xs k (bit_xor (get_or xs k 0) (1 * 2 ^ q % 18446744073709551616))) k q false
left_out xs k q long h l t =
    subst (λ (z : ℕ). Changed xs (set xs k (bit_xor (get_or xs k 0) z)) k q false) (sym (one_bit q l))
    (changed xs k q (bit_xor (get_or xs k 0) (2 ^ q)) false long h (clear-same (get_or xs k 0) q t) (λ r n. clear-other (get_or xs k 0) q r n))

-- ---- undecided pairs
pub is_open : (low high : List ℕ) (p : ℕ) (a b : Bool) → a ≡ takes high (p / 64) (p % 64) → a ≡ true → b ≡ takes low (p / 64) (p % 64) → not b ≡ undecided low high p
unfolding undecided
is_open low high p a b e h f = sym (both-skip _ _ (sym e ∙ h) ∙ ap not (sym f))

pub is-shut : (low high : List ℕ) (p : ℕ) (a : Bool) → a ≡ takes high (p / 64) (p % 64) → a ≡ false → false ≡ undecided low high p
unfolding undecided
is-shut low high p a e h = sym (both-none _ _ (sym e ∙ h))

-- ---- numbers with the same bits are equal
same-parity : (x y : ℕ) → bit x 0 ≡ bit y 0 → x % 2 ≡ y % 2
unfolding bit
same-parity x y e =
    ⊎_elim (λ a. ⊎_elim (λ b. omega arith) (λ b. absurd (b (eqb-true (y / 1 % 2) 1 (sym e ∙ eq-eqb (x / 1 % 2) 1 (omega arith))))) (eq-or-ne (y / 1 % 2) 1))
    (λ a. ⊎_elim (λ b. absurd (a (eqb-true (x / 1 % 2) 1 (e ∙ eq-eqb (y / 1 % 2) 1 b)))) (λ b. omega arith) (eq-or-ne (y / 1 % 2) 1))
    (eq-or-ne (x / 1 % 2) 1)

same-to : (n x y : ℕ) → x < n → y < n → ((q : ℕ) → bit x q ≡ bit y q) → x ≡ y
same-to zero x y h l e = absurd (omega arith)
same-to (suc n) x y h l e =
    ⊎_elim
    (λ (a : x + y ≤ 0). omega arith)
    (λ a.
    let d : x / 2 ≡ y / 2 = same-to n (x / 2) (y / 2) (omega arith) (omega arith) (λ q. bit-half x q ∙ e (suc q) ∙ sym (bit-half y q)) in
    let p : x % 2 ≡ y % 2 = same-parity x y (e 0) in
    omega arith)
    (le-or-lt (x + y) 0)

pub same_bits : (x y : ℕ) → ((q : ℕ) → bit x q ≡ bit y q) → x ≡ y
same_bits x y e = same-to (suc (x + y)) x y (omega arith) (omega arith) e
