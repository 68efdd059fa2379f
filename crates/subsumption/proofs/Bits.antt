-- Laws of the bits of a number.
use Prim.Native.Nat.{ℕ, zero, suc, ◌+◌, ◌*◌, ◌-◌, ◌/◌, ◌%◌, ◌^◌, ◌<◌, ◌≤◌, min, max}
use mathlib.Core.Path.{◌≡◌, refl, ap, sym, ◌∙◌, subst}
use mathlib.Core.Bool.{Bool, true, false}
use mathlib.Core.Logic.{◌⊎◌}
use native.Mathlib.Omega.{arith}
use native.Mathlib.Nat.{div-eq_of_lt, pow-suc, mul-mod_left, div-div-eq-div-mul, mod-eq_of_lt, mul_comm, mul_assoc, lt_of_lt_of_le}
use lib.Pow.{pow_pos, pow-lt, pow_mono, pow-add, shl-shr, shr-shr}
use lib.Dec.{eqb, ltb}
use lib.Bits.{bit_and, bit_or, or_shr, and_shr, or_step, and_step, and_mask, or_add_and, and_le_r, shifted_even}
use borrow.Author.Tests.{eqb-true, ltb-true, ltb-false}
use Rattle.subsumption.specs.Tables.{or, both}
use Rattle.subsumption.specs.Atoms.{bit}
use Rattle.subsumption.proofs.Bools.{or_cases, both_true}

max-odd : (a b : ℕ) → a < 2 → b < 2 → eqb (max a b % 2) 1 ≡ or (eqb a 1) (eqb b 1)
unfolding or
max-odd zero zero p q = refl
max-odd zero (suc zero) p q = refl
max-odd (suc zero) zero p q = refl
max-odd (suc zero) (suc zero) p q = refl
max-odd (suc (suc a)) b p q = absurd (omega arith)
max-odd zero (suc (suc b)) p q = absurd (omega arith)
max-odd (suc zero) (suc (suc b)) p q = absurd (omega arith)

min-odd : (a b : ℕ) → a < 2 → b < 2 → eqb (min a b % 2) 1 ≡ both (eqb a 1) (eqb b 1)
unfolding both
min-odd zero zero p q = refl
min-odd zero (suc zero) p q = refl
min-odd (suc zero) zero p q = refl
min-odd (suc zero) (suc zero) p q = refl
min-odd (suc (suc a)) b p q = absurd (omega arith)
min-odd zero (suc (suc b)) p q = absurd (omega arith)
min-odd (suc zero) (suc (suc b)) p q = absurd (omega arith)

last : (a b : ℕ) → (a * 2 + b) % 2 ≡ b % 2
last a b = omega arith

or-odd : (a b : ℕ) → eqb (bit_or a b % 2) 1 ≡ or (eqb (a % 2) 1) (eqb (b % 2) 1)
or-odd a b =
    ap (λ (x : ℕ). eqb (x % 2) 1) (or_step a b)
    ∙ ap (λ (x : ℕ). eqb x 1) (last (bit_or (a / 2) (b / 2)) (max (a % 2) (b % 2)))
    ∙ max-odd (a % 2) (b % 2) (omega arith) (omega arith)

and-odd : (a b : ℕ) → eqb (bit_and a b % 2) 1 ≡ both (eqb (a % 2) 1) (eqb (b % 2) 1)
and-odd a b =
    ap (λ (x : ℕ). eqb (x % 2) 1) (and_step a b)
    ∙ ap (λ (x : ℕ). eqb x 1) (last (bit_and (a / 2) (b / 2)) (min (a % 2) (b % 2)))
    ∙ min-odd (a % 2) (b % 2) (omega arith) (omega arith)

pub bit-or : (x y k : ℕ) → bit (bit_or x y) k ≡ or (bit x k) (bit y k)
unfolding bit
bit-or x y k = ap (λ (z : ℕ). eqb (z % 2) 1) (or_shr x y k) ∙ or-odd (x / 2 ^ k) (y / 2 ^ k)

pub bit-and : (x y k : ℕ) → bit (bit_and x y) k ≡ both (bit x k) (bit y k)
unfolding bit
bit-and x y k = ap (λ (z : ℕ). eqb (z % 2) 1) (and_shr x y k) ∙ and-odd (x / 2 ^ k) (y / 2 ^ k)

pub bit_or_right : (x y k : ℕ) → bit y k ≡ true → bit (bit_or x y) k ≡ true
unfolding or
bit_or_right x y k h = bit-or x y k ∙ go (bit x k) (bit y k) h
  where
    go : (a b : Bool) → b ≡ true → or a b ≡ true
    go true b e = refl
    go false b e = e

pub bit_or_left : (x y k : ℕ) → bit x k ≡ true → bit (bit_or x y) k ≡ true
unfolding or
bit_or_left x y k h = bit-or x y k ∙ go (bit x k) (bit y k) h
  where
    go : (a b : Bool) → a ≡ true → or a b ≡ true
    go true b e = refl
    go false b e = let z : ◌≡◌ {A = ℕ} 0 1 = cc in absurd (omega arith)

pub bit-or-cases : (x y k : ℕ) → bit (bit_or x y) k ≡ true → (bit x k ≡ true) ⊎ (bit y k ≡ true)
bit-or-cases x y k h = or_cases (bit x k) (bit y k) (sym (bit-or x y k) ∙ h)

-- one bit
pub bit-pow : (k : ℕ) → bit (2 ^ k) k ≡ true
unfolding bit
bit-pow k = ap (λ (z : ℕ). eqb (z % 2) 1) (ap (λ (z : ℕ). z / 2 ^ k) one ∙ shl-shr 1 k)
  where
    one : 2 ^ k ≡ 1 * 2 ^ k
    one = omega arith

pow-shift : (d j : ℕ) → 2 ^ (d + j) / 2 ^ j ≡ 2 ^ d
pow-shift d j = ap (λ (z : ℕ). z / 2 ^ j) (pow-add 2 d j) ∙ shl-shr (2 ^ d) j

pow_even : (e : ℕ) → 2 ^ suc e % 2 ≡ 0
pow_even e = ap (λ (z : ℕ). z % 2) (pow-suc 2 e) ∙ mul-mod_left (2 ^ e) 2

pub zero_bit : (x k : ℕ) → x / 2 ^ k % 2 ≡ 0 → bit x k ≡ true → ⊥
unfolding bit
zero_bit x k e h = omega (arith, eqb-true (x / 2 ^ k % 2) 1 h)

-- and no other
pub bit-pow-other : (j k : ℕ) → bit (2 ^ k) j ≡ true → j ≡ k
bit-pow-other j k h = go (ltb j k) refl (ltb k j) refl
  where
    below : j < k → ⊥
    below l = zero_bit (2 ^ k) j (subst (λ (n : ℕ). 2 ^ n / 2 ^ j % 2 ≡ 0) (apart l) (ap (λ (z : ℕ). z % 2) (pow-shift (suc (k - suc j)) j) ∙ pow_even (k - suc j))) h
      where
        apart : j < k → suc (k - suc j) + j ≡ k
        apart l = omega arith

    above : k < j → ⊥
    above l = zero_bit (2 ^ k) j (ap (λ (z : ℕ). z % 2) (div-eq_of_lt (pow-lt l))) h

    go : (a : Bool) → ltb j k ≡ a → (b : Bool) → ltb k j ≡ b → j ≡ k
    go true p b q = absurd (below (ltb-true j k p))
    go false p true q = absurd (above (ltb-true k j q))
    go false p false q = omega (arith, ltb-false j k p, ltb-false k j q)

bit_mask : (n k : ℕ) → k < n → bit (2 ^ n - 1) k ≡ true
bit_mask n k h =
    (both_true (bit (2 ^ k) k) (bit (2 ^ n - 1) k)
    (sym (bit-and (2 ^ k) (2 ^ n - 1) k) ∙ ap (λ (z : ℕ). bit z k) (and_mask (2 ^ k) n ∙ mod-eq_of_lt (pow-lt h)) ∙ bit-pow k)).1

pub bit-ones : (k : ℕ) → k < 64 → bit (2 ^ 64 - 1) k ≡ true
bit-ones = bit_mask 64

pub bit-of-zero : (k : ℕ) → bit 0 k ≡ true → ⊥
bit-of-zero k h = zero_bit 0 k (ap (λ (z : ℕ). z % 2) (div-eq_of_lt (pow_pos k))) h

-- a bit of the half
pub bit-half : (x k : ℕ) → bit (x / 2) k ≡ bit x (suc k)
unfolding bit
bit-half x k = ap (λ (z : ℕ). eqb (z % 2) 1) (div-div-eq-div-mul x 2 (2 ^ k) ∙ ap (λ (z : ℕ). x / z) (mul_comm 2 (2 ^ k) ∙ sym (pow-suc 2 k)))

-- taking bits in never makes a number smaller
pub or-grows : (x y : ℕ) → x ≤ bit_or x y
or-grows x y = omega (arith, or_add_and x y, and_le_r x y)

-- shifts, and the low bits alone
pub bit-shr : (x s k : ℕ) → bit (x / 2 ^ s) k ≡ bit x (s + k)
unfolding bit
bit-shr x s k = ap (λ (z : ℕ). eqb (z % 2) 1) (shr-shr x s k)

pub bit-mod : (x n k : ℕ) → k < n → bit (x % 2 ^ n) k ≡ bit x k
unfolding both
bit-mod x n k h =
    ap (λ (z : ℕ). bit z k) (sym (and_mask x n)) ∙ bit-and x (2 ^ n - 1) k ∙ both-all (bit x k) (bit (2 ^ n - 1) k) (bit_mask n k h)
  where
    both-all : (a b : Bool) → b ≡ true → both a b ≡ a
    both-all true b e = e
    both-all false b e = refl

pub bit_past : (x n k : ℕ) → x < 2 ^ n → n ≤ k → bit x k ≡ false
unfolding bit
bit_past x n k h l = ap (λ (z : ℕ). eqb (z % 2) 1) (div-eq_of_lt (lt_of_lt_of_le h (pow_mono l)))

pub bit-shl : (x s k : ℕ) → s ≤ k → k < 64 → bit (x * 2 ^ s % 2 ^ 64) k ≡ bit x (k - s)
bit-shl x s k h l =
    bit-mod (x * 2 ^ s) 64 k l ∙ ap (bit (x * 2 ^ s)) (sym (apart h)) ∙ sym (bit-shr (x * 2 ^ s) s (k - s)) ∙ ap (λ (z : ℕ). bit z (k - s)) (shl-shr x s)
  where
    apart : s ≤ k → s + (k - s) ≡ k
    apart h = omega arith

pub bit-shl-low : (x s k : ℕ) → k < s → k < 64 → bit (x * 2 ^ s % 2 ^ 64) k ≡ false
unfolding bit
bit-shl-low x s k h l =
    bit-mod (x * 2 ^ s) 64 k l
    ∙ ap (λ (z : ℕ). eqb (z % 2) 1) (ap (λ (z : ℕ). z / 2 ^ k) (ap (λ (z : ℕ). x * 2 ^ z) (sym (apart h)) ∙ split) ∙ shl-shr (x * 2 ^ suc (s - suc k)) k)
    ∙ ap (λ (z : ℕ). eqb z 1) (shifted_even x (s - suc k))
  where
    apart : k < s → suc (s - suc k) + k ≡ s
    apart h = omega arith

    split : x * 2 ^ (suc (s - suc k) + k) ≡ x * 2 ^ suc (s - suc k) * 2 ^ k
    split = ap (λ (z : ℕ). x * z) (pow-add 2 (suc (s - suc k)) k) ∙ sym (mul_assoc x (2 ^ suc (s - suc k)) (2 ^ k))
