-- The set of a concept's variables: when it is empty, and which bits it has.
use Prim.Native.Nat.{ℕ, zero, suc, ◌^◌}
use mathlib.Core.Path.{◌≡◌, refl, sym, ap, ap₂, ◌∙◌}
use mathlib.Core.Bool.{Bool, true, false, not, false≢true}
use native.Mathlib.Omega.{arith}
use lib.Bits.{bit_or, or_zero_l, or_add_and, and_le_r}
use lib.Dec.{eqb}
use lib.Pow.{pow_pos}
use borrow.Author.Tests.{eq-eqb, ne_eqb, eqb-true, eqb-false}
use Rattle.subsumption.specs.Tables.{or, Concept, top, name, exists, and, var, variables_of, has_variable}
use Rattle.subsumption.specs.Atoms.{bit}
use Rattle.subsumption.specs.Variables.{stands_in}
use Rattle.subsumption.proofs.Bools.{or-first, or-false}
use Rattle.subsumption.proofs.Bits.{bit-or, bit-pow, bit-pow-other, bit-of-zero}

-- ---- when it is empty
or-empty : (x y : ℕ) → not (eqb (bit_or x y) 0) ≡ or (not (eqb x 0)) (not (eqb y 0))
unfolding or
or-empty zero y = ap (λ (z : ℕ). not (eqb z 0)) (or_zero_l y)
or-empty (suc x) y =
    ap not (ne_eqb (bit_or (suc x) y) 0 (λ e. omega (arith, or_add_and (suc x) y, and_le_r (suc x) y, e)))
    ∙ sym (or-first _ _ (ap not (ne_eqb (suc x) 0 (λ e. omega arith))))

pub variable-both : (c d : Concept) → has_variable (and c d) ≡ or (has_variable c) (has_variable d)
unfolding has_variable variables_of
variable-both c d = or-empty (variables_of c) (variables_of d)

pub variable-one : (k : ℕ) → has_variable (var k) ≡ true
unfolding has_variable variables_of
variable-one k = ap not (ne_eqb (2 ^ k) 0 (λ e. omega (arith, pow_pos k)))

-- ---- which bits it has
bit-zero : (k : ℕ) → false ≡ bit 0 k
bit-zero k = go (bit 0 k) refl
  where
    go : (b : Bool) → bit 0 k ≡ b → false ≡ b
    go true e = absurd (bit-of-zero k e)
    go false e = refl

bit-of-one : (k j : ℕ) → bit (2 ^ j) k ≡ eqb k j
bit-of-one k j = go (eqb k j) refl
  where
    on : (b : Bool) → bit (2 ^ j) k ≡ b → (k ≡ j → ⊥) → b ≡ false
    on true e n = absurd (n (bit-pow-other k j e))
    on false e n = refl

    go : (b : Bool) → eqb k j ≡ b → bit (2 ^ j) k ≡ b
    go true e = ap (λ (z : ℕ). bit (2 ^ z) k) (sym (eqb-true k j e)) ∙ bit-pow k
    go false e = on (bit (2 ^ j) k) refl (eqb-false k j e)

-- The set's bits are exactly the variables that stand in the concept.
pub set-exactly : (c : Concept) (k : ℕ) → bit (variables_of c) k ≡ stands_in k c
unfolding variables_of stands_in
set-exactly top k = sym (bit-zero k)
set-exactly (name n) k = sym (bit-zero k)
set-exactly (exists r c) k = set-exactly c k
set-exactly (and c d) k = bit-or (variables_of c) (variables_of d) k ∙ ap₂ or (set-exactly c k) (set-exactly d k)
set-exactly (var j) k = bit-of-one k j

-- A concept without variables has the empty set.
pub set-empty : (c : Concept) → ((k : ℕ) → stands_in k c ≡ false) → variables_of c ≡ 0
unfolding variables_of stands_in
set-empty top h = refl
set-empty (name n) h = refl
set-empty (exists r c) h = set-empty c h
set-empty (and c d) h = rw (set-empty c (λ k. (or-false _ _ (h k)).0), set-empty d (λ k. (or-false _ _ (h k)).1)) refl
set-empty (var j) h = absurd (false≢true (sym (h j) ∙ eq-eqb j j refl))
