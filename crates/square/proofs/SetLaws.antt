-- Sets of ids: one id comes in; the three words of a set.
use Prim.Native.Nat.{ℕ, zero, suc, ◌+◌, ◌*◌, ◌/◌, ◌%◌, ◌^◌, ◌<◌, ◌≤◌}
use mathlib.Core.Path.{◌≡◌, refl, ap, ap₂, sym, ◌∙◌, subst}
use mathlib.Core.List.{List, [], ◌∷◌}
use mathlib.Core.Bool.{true, false≢true}
use mathlib.Core.Logic.{◌⊎◌, inl, inr, ⊎_elim}
use native.Mathlib.Omega.{arith}
use lib.ListN.{length, get_or, set, length-set, replicate, get_or-replicate}
use lib.Seq.{get_or-set_same, get_or-set_other}
use lib.Bits.{bit_and, bit_or}
use Rattle.subsumption.specs.Tables.{both}
use Rattle.subsumption.specs.Atoms.{bit}
use Rattle.subsumption.proofs.Bools.{eq-or-ne}
use Rattle.subsumption.proofs.Bits.{bit-and, bit-or-cases, bit_or_left, bit_or_right, bit-pow, bit-pow-other}
use Rattle.subsumption.proofs.MarkLaws.{shifted}
use Rattle.square.specs.Inner.Square.{on_line}
use Rattle.square.specs.Inner.Sets.{Inserted}
use Rattle.square.proofs.BitLaws.{no_bits}

-- ---- one id
module _ (before : List ℕ) (at y : ℕ) (low : y < 192) (fits : at + 3 ≤ length before) where
  abbrev word : ℕ
  word = bit_or (get_or before (at + y / 64) 0) (1 * 2 ^ (y % 64) % 18446744073709551616)

  abbrev after : List ℕ
  after = set before (at + y / 64) word

  here : get_or after (at + y / 64) 0 ≡ bit_or (get_or before (at + y / 64) 0) (2 ^ (y % 64))
  here = get_or-set_same before (at + y / 64) word 0 (omega arith) ∙ ap (bit_or (get_or before (at + y / 64) 0)) (shifted (y % 64) (omega arith))

  else : (p : ℕ) → (p ≡ at + y / 64 → ⊥) → get_or after p 0 ≡ get_or before p 0
  else p n = get_or-set_other before (at + y / 64) p word 0 n

  insert-kept : (from q : ℕ) → on_line before from q ≡ true → on_line after from q ≡ true
  unfolding on_line
  insert-kept from q u =
      ⊎_elim
      (λ (e : from + q / 64 ≡ at + y / 64).
      subst (λ (z : ℕ). bit (get_or after z 0) (q % 64) ≡ true) (sym e)
      (ap (λ (w : ℕ). bit w (q % 64)) here ∙ bit_or_left (get_or before (at + y / 64) 0) (2 ^ (y % 64)) (q % 64) (subst (λ (z : ℕ). bit (get_or before z 0) (q % 64) ≡ true) e u)))
      (λ n. ap (λ (w : ℕ). bit w (q % 64)) (else (from + q / 64) n) ∙ u) (eq-or-ne (from + q / 64) (at + y / 64))

  insert-bits : (q : ℕ) → q < 192 → on_line after at q ≡ true → (on_line before at q ≡ true) ⊎ (q ≡ y)
  unfolding on_line
  insert-bits q l u =
      ⊎_elim
      (λ (e : at + q / 64 ≡ at + y / 64).
      ⊎_elim (λ v. inl (subst (λ (z : ℕ). bit (get_or before z 0) (q % 64) ≡ true) (sym e) v))
      (λ v. let r = bit-pow-other (q % 64) (y % 64) v in inr (omega (arith, e, r)))
      (bit-or-cases (get_or before (at + y / 64) 0) (2 ^ (y % 64)) (q % 64)
      (ap (λ (w : ℕ). bit w (q % 64)) (sym here) ∙ subst (λ (z : ℕ). bit (get_or after z 0) (q % 64) ≡ true) e u)))
      (λ n. inl (ap (λ (w : ℕ). bit w (q % 64)) (sym (else (at + q / 64) n)) ∙ u)) (eq-or-ne (at + q / 64) (at + y / 64))

  insert-there : (from q : ℕ) → q < 192 → (from + 3 ≤ at) ⊎ (at + 3 ≤ from) → on_line after from q ≡ on_line before from q
  unfolding on_line
  insert-there from q l (inl h) = ap (λ (w : ℕ). bit w (q % 64)) (else (from + q / 64) (λ e. omega arith))
  insert-there from q l (inr h) = ap (λ (w : ℕ). bit w (q % 64)) (else (from + q / 64) (λ e. omega arith))

  insert-taken : on_line after at y ≡ true
  unfolding on_line
  insert-taken = ap (λ (w : ℕ). bit w (y % 64)) here ∙ bit_or_right (get_or before (at + y / 64) 0) (2 ^ (y % 64)) (y % 64) (bit-pow (y % 64))

  pub inserted : Inserted before after at y
  inserted = record { long = length-set before _ word; kept = insert-kept; bits = insert-bits; taken = insert-taken; there = insert-there }

-- sets that hold nothing
pub empty-line : (n at y : ℕ) → y < 192 → at + 3 ≤ n → on_line (replicate n 0) at y ≡ true → ⊥
unfolding on_line
empty-line n at y l h e = false≢true (sym (ap (λ (w : ℕ). bit w (y % 64)) (get_or-replicate n (at + y / 64) 0 0 (omega arith)) ∙ no_bits (y % 64)) ∙ e)

-- ---- three words
-- three words read from the line at that place are its bits
pub line-three : (s : List ℕ) (at y : ℕ) → y < 192 → on_line (get_or s at 0 ∷ get_or s (at + 1) 0 ∷ get_or s (at + 2) 0 ∷ []) 0 y ≡ on_line s at y
unfolding on_line
line-three s at y l = ap (λ (w : ℕ). bit w (y % 64)) (go (y / 64) (omega arith))
  where
    go : (w : ℕ) → w < 3 → get_or (get_or s at 0 ∷ get_or s (at + 1) 0 ∷ get_or s (at + 2) 0 ∷ []) (0 + w) 0 ≡ get_or s (at + w) 0
    go zero h = ap (λ (z : ℕ). get_or s z 0) (omega arith)
    go (suc zero) h = refl
    go (suc (suc zero)) h = refl
    go (suc (suc (suc w))) h = absurd (omega arith)

pub both-three :
    (s : List ℕ) (a b y : ℕ) → y < 192
    → on_line (bit_and (get_or s a 0) (get_or s b 0) ∷ bit_and (get_or s (a + 1) 0) (get_or s (b + 1) 0) ∷ bit_and (get_or s (a + 2) 0) (get_or s (b + 2) 0) ∷ []) 0 y
    ≡ both (on_line s a y) (on_line s b y)
unfolding on_line
both-three s a b y l =
    ap (λ (w : ℕ). bit w (y % 64)) (go (y / 64) (omega arith)) ∙ bit-and (get_or s (a + y / 64) 0) (get_or s (b + y / 64) 0) (y % 64)
  where
    go :
        (w : ℕ) → w < 3
        → get_or (bit_and (get_or s a 0) (get_or s b 0) ∷ bit_and (get_or s (a + 1) 0) (get_or s (b + 1) 0) ∷ bit_and (get_or s (a + 2) 0) (get_or s (b + 2) 0) ∷ []) (0 + w) 0
        ≡ bit_and (get_or s (a + w) 0) (get_or s (b + w) 0)
    go zero h = ap₂ (λ (p q : ℕ). bit_and (get_or s p 0) (get_or s q 0)) (omega arith) (omega arith)
    go (suc zero) h = refl
    go (suc (suc zero)) h = refl
    go (suc (suc (suc w))) h = absurd (omega arith)
