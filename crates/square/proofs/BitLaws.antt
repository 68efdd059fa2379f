-- Bits that a word lacks, and walking a word's bits from the lowest.
use Prim.Native.Nat.{ℕ, zero, suc, ◌+◌, ◌-◌, ◌*◌, ◌/◌, ◌%◌, ◌^◌, ◌<◌}
use mathlib.Core.Path.{◌≡◌, refl, sym, ap, ◌∙◌}
use mathlib.Core.Bool.{Bool, true, false, not}
use mathlib.Core.Logic.{◌⊎◌, inl, inr}
use native.Mathlib.Omega.{arith}
use native.Mathlib.Nat.{pow-suc}
use lib.Dec.{eqb}
use lib.Bits.{bit_and, bit_or, bit_xor, differ, and_step, and_self, and_le_r, xor_shr, xor_step}
use lib.Count.{count_trailing_zeros}
use borrow.Author.Tests.{eq-eqb}
use Rattle.subsumption.specs.Tables.{or, both}
use Rattle.subsumption.specs.Atoms.{bit}
use Rattle.subsumption.proofs.Bools.{eq-or-ne}
use Rattle.subsumption.proofs.Bits.{bit-or, bit-half, bit-of-zero}

-- ---- exclusive or
other : Bool → Bool → Bool
other true b = not b
other false b = b

differ-odd : (a b : ℕ) → a < 2 → b < 2 → eqb (differ a b % 2) 1 ≡ other (eqb a 1) (eqb b 1)
unfolding other
differ-odd zero zero p q = refl
differ-odd zero (suc zero) p q = refl
differ-odd (suc zero) zero p q = refl
differ-odd (suc zero) (suc zero) p q = refl
differ-odd (suc (suc a)) b p q = absurd (omega arith)
differ-odd zero (suc (suc b)) p q = absurd (omega arith)
differ-odd (suc zero) (suc (suc b)) p q = absurd (omega arith)

last : (a b : ℕ) → (a * 2 + b) % 2 ≡ b % 2
last a b = omega arith

xor-odd : (a b : ℕ) → eqb (bit_xor a b % 2) 1 ≡ other (eqb (a % 2) 1) (eqb (b % 2) 1)
xor-odd a b =
    ap (λ (x : ℕ). eqb (x % 2) 1) (xor_step a b)
    ∙ ap (λ (x : ℕ). eqb x 1) (last (bit_xor (a / 2) (b / 2)) (differ (a % 2) (b % 2)))
    ∙ differ-odd (a % 2) (b % 2) (omega arith) (omega arith)

bit-xor : (x y k : ℕ) → bit (bit_xor x y) k ≡ other (bit x k) (bit y k)
unfolding bit
bit-xor x y k = ap (λ (z : ℕ). eqb (z % 2) 1) (xor_shr x y k) ∙ xor-odd (x / 2 ^ k) (y / 2 ^ k)

-- the bits that `old` lacks
pub lacking : (old add k : ℕ) → bit (bit_xor (bit_or old add) old) k ≡ both (bit add k) (not (bit old k))
unfolding other or both
lacking old add k = bit-xor (bit_or old add) old k ∙ ap (λ (z : Bool). other z (bit old k)) (bit-or old add k) ∙ go (bit old k) (bit add k)
  where
    go : (o a : Bool) → other (or o a) o ≡ both a (not o)
    go true true = refl
    go true false = refl
    go false true = refl
    go false false = refl

-- ---- the lowest bit
whole : (x : ℕ) → x / 2 ^ 0 ≡ x
whole x = omega arith

odd-bit : (x : ℕ) → x % 2 ≡ 1 → bit x 0 ≡ true
unfolding bit
odd-bit x h = let e : x / 2 ^ 0 % 2 ≡ 1 = omega arith in ap (λ (z : ℕ). eqb z 1) e

even-bit : (x : ℕ) → x % 2 ≡ 0 → bit x 0 ≡ false
unfolding bit
even-bit x h = let e : x / 2 ^ 0 % 2 ≡ 0 = omega arith in ap (λ (z : ℕ). eqb z 1) e

clear-odd : (x : ℕ) → x % 2 ≡ 1 → bit_and x (x - 1) ≡ x / 2 * 2
clear-odd x h =
    let e : (x - 1) / 2 ≡ x / 2 = omega arith in
    let f : (x - 1) % 2 ≡ 0 = omega arith in
    and_step x (x - 1) ∙ rw (e, f, h, and_self) (omega arith)

clear-even : (x : ℕ) → 0 < x → x % 2 ≡ 0 → bit_and x (x - 1) ≡ bit_and (x / 2) (x / 2 - 1) * 2
clear-even x l h =
    let e : (x - 1) / 2 ≡ x / 2 - 1 = omega arith in
    let f : (x - 1) % 2 ≡ 1 = omega arith in
    and_step x (x - 1) ∙ rw (e, f, h) (omega arith)

twice : (y k : ℕ) → bit (y * 2) (suc k) ≡ bit y k
twice y k = sym (bit-half (y * 2) k) ∙ ap (λ (z : ℕ). bit z k) (half y)
  where
    half : (y : ℕ) → y * 2 / 2 ≡ y
    half y = omega arith

-- x has its lowest one at that place, and `rest` has the others
pub record Lowest (digits x place rest : ℕ) : Type 0 where
  pub low : place < digits
  pub here : bit x place ≡ true
  pub gone : bit rest place ≡ false
  pub others : (k : ℕ) → (k ≡ place → ⊥) → bit rest k ≡ bit x k
  pub under : (k : ℕ) → k < place → bit x k ≡ false

pub lowest : (d x : ℕ) → 0 < x → x < 2 ^ d → Lowest d x (count_trailing_zeros d x) (bit_and x (x - 1))
unfolding count_trailing_zeros
lowest zero x p h = absurd (omega arith)
lowest (suc d) x p h = go (λ q. lowest d (x / 2) q (omega (arith, pow-suc 2 d))) (eq-or-ne (x % 2) 1)
  where
    odd : x % 2 ≡ 1 → (k : ℕ) → (k ≡ 0 → ⊥) → bit (x / 2 * 2) k ≡ bit x k
    odd e zero n = absurd (n refl)
    odd e (suc k) n = twice (x / 2) k ∙ bit-half x k

    even : (n : Lowest d (x / 2) (count_trailing_zeros d (x / 2)) (bit_and (x / 2) (x / 2 - 1))) → x % 2 ≡ 0 → (k : ℕ) → (k ≡ suc (count_trailing_zeros d (x / 2)) → ⊥) → bit (bit_and (x / 2) (x / 2 - 1) * 2) k ≡ bit x k
    even n e zero u = even-bit _ (double (bit_and (x / 2) (x / 2 - 1))) ∙ sym (even-bit x e)
      where
        double : (y : ℕ) → y * 2 % 2 ≡ 0
        double y = omega arith
    even n e (suc k) u = twice _ k ∙ n.others k (λ v. u (ap suc v)) ∙ bit-half x k

    low-even : (n : Lowest d (x / 2) (count_trailing_zeros d (x / 2)) (bit_and (x / 2) (x / 2 - 1))) → x % 2 ≡ 0 → (k : ℕ) → k < suc (count_trailing_zeros d (x / 2)) → bit x k ≡ false
    low-even n e zero u = even-bit x e
    low-even n e (suc k) u = sym (bit-half x k) ∙ n.under k (omega arith)

    go : (0 < x / 2 → Lowest d (x / 2) (count_trailing_zeros d (x / 2)) (bit_and (x / 2) (x / 2 - 1))) → (x % 2 ≡ 1) ⊎ (x % 2 ≡ 1 → ⊥) → Lowest (suc d) x (count_trailing_zeros (suc d) x) (bit_and x (x - 1))
    go ih (inl e) =
        rw (e, clear-odd x e)
        (record {
          low = omega arith;
          here = odd-bit x e;
          gone = even-bit _ (double (x / 2));
          others = odd e;
          under = λ k u. absurd (omega arith);
        })
      where
        double : (y : ℕ) → y * 2 % 2 ≡ 0
        double y = omega arith
    go ih (inr ne) =
        let e : x % 2 ≡ 0 = omega arith in
        let n = ih (omega arith) in
        rw (e, clear-even x p e)
        (record {
          low = omega (arith, n.low);
          here = sym (bit-half x (count_trailing_zeros d (x / 2))) ∙ n.here;
          gone = twice _ (count_trailing_zeros d (x / 2)) ∙ n.gone;
          others = even n e;
          under = low-even n e;
        })

-- fewer are left
pub rest-less : (x : ℕ) → 0 < x → bit_and x (x - 1) < x
rest-less x h = omega (arith, and_le_r x (x - 1))

pub no_bits : (k : ℕ) → bit 0 k ≡ false
no_bits k = go (bit 0 k) refl
  where
    go : (b : Bool) → bit 0 k ≡ b → bit 0 k ≡ false
    go true e = absurd (bit-of-zero k e)
    go false e = e

-- as the code tests a choice
pub picked-bit : (choice q : ℕ) → (choice / 2 ^ q % 2 ≡ 0 → ⊥) → bit choice q ≡ true
unfolding bit
picked-bit choice q n = eq-eqb (choice / 2 ^ q % 2) 1 (omega arith)
