-- Sets of pairs, word by word.
use Prim.Native.Nat.{ℕ, ◌+◌, ◌<◌, ◌≤◌}
use mathlib.Core.Path.{◌≡◌, refl, sym, ap, ap₂, ◌∙◌, subst}
use mathlib.Core.List.{List}
use mathlib.Core.Bool.{Bool, true, false}
use mathlib.Core.Logic.{◌⊎◌, inl, inr, ⊎_elim}
use native.Mathlib.Omega.{arith}
use lib.Bits.{bit_and, bit_or}
use lib.ListN.{length, get_or, set, length-set, get_or-eq_default}
use lib.Seq.{get_or-set_same, get_or-set_other}
use Rattle.std.specs.Prelude.{MatchBool, HoldsAt, zip}
use Rattle.std.specs.List.{AllWithin}
use Rattle.std.proofs.lemmas.Slice.Zip.{get_or-zip, length-zip}
use Rattle.subsumption.specs.Tables.{or, both}
use Rattle.subsumption.specs.Atoms.{bit}
use Rattle.subsumption.proofs.Bools.{last-cases, le-or-lt, same_bool, both_true, both-intro}
use Rattle.subsumption.proofs.Bits.{bit-or, bit-and, bit_or_left, bit_or_right, bit-or-cases, bit-of-zero}
use Rattle.matching.specs.Solving.{takes}
use Rattle.matching.specs.Inner.Search.{Decided, Within}
use Rattle.matching.specs.Inner.Search.Pairs.{Joined, Met}
use Rattle.matching.specs.Inner.Search.Widen.{Mixed}
use Rattle.matching.proofs.SearchLaws.Choices.{same_bits}

-- past the eight numbers nothing is taken
pub past-none : (a : List ℕ) (k q : ℕ) → length a ≡ 8 → 8 ≤ k → get_or a k 0 ≡ 0
past-none a k q e h = get_or-eq_default a 0 {n = k} (omega arith)

-- ---- the first n numbers are combined, the others as they were
module _ (f : ℕ → ℕ → ℕ) (a b : List ℕ) where
  pub record Combined (r : List ℕ) (n : ℕ) : Type 0 where
    pub long : length r ≡ 8
    pub done : (k : ℕ) → k < n → get_or r k 0 ≡ f (get_or a k 0) (get_or b k 0)
    pub rest : (k : ℕ) → n ≤ k → get_or r k 0 ≡ get_or a k 0

module _ (a b r : List ℕ) (n : ℕ) (ea : length a ≡ 8) (eb : length b ≡ 8) (h : 8 ≤ n) where
  no_bits : (q : ℕ) → bit 0 q ≡ false
  no_bits q = go (bit 0 q) refl
    where
      go : (x : Bool) → bit 0 q ≡ x → bit 0 q ≡ false
      go true e = absurd (bit-of-zero q e)
      go false e = e

  pub joined-all : Combined bit_or a b r n → Joined a b r
  unfolding or
  joined-all c = record { long = c.long; bits = bits }
    where
      bits : (k q : ℕ) → takes r k q ≡ or (takes a k q) (takes b k q)
      bits k q =
          ⊎_elim
          (λ (l : n ≤ k). ap (λ (z : ℕ). bit z q) (past-none r k q c.long (omega arith)) ∙ no_bits q ∙ sym (ap₂ or (ap (λ (z : ℕ). bit z q) (past-none a k q ea (omega arith)) ∙ no_bits q) (ap (λ (z : ℕ). bit z q) (past-none b k q eb (omega arith)) ∙ no_bits q)))
          (λ l. ap (λ (z : ℕ). bit z q) (c.done k l) ∙ bit-or (get_or a k 0) (get_or b k 0) q)
          (le-or-lt n k)

  pub met_all : Combined bit_and a b r n → Met a b r
  unfolding both
  met_all c = record { long = c.long; bits = bits }
    where
      bits : (k q : ℕ) → takes r k q ≡ both (takes a k q) (takes b k q)
      bits k q =
          ⊎_elim
          (λ (l : n ≤ k). ap (λ (z : ℕ). bit z q) (past-none r k q c.long (omega arith)) ∙ no_bits q ∙ sym (ap₂ both (ap (λ (z : ℕ). bit z q) (past-none a k q ea (omega arith)) ∙ no_bits q) (ap (λ (z : ℕ). bit z q) (past-none b k q eb (omega arith)) ∙ no_bits q)))
          (λ l. ap (λ (z : ℕ). bit z q) (c.done k l) ∙ bit-and (get_or a k 0) (get_or b k 0) q)
          (le-or-lt n k)

-- ---- being within, number by number
pub WithinTo : List ℕ → List ℕ → ℕ → Type 0
WithinTo a b n = (k q : ℕ) → k < n → takes a k q ≡ true → takes b k q ≡ true

pub within_none : (a b : List ℕ) → WithinTo a b 0
unfolding WithinTo
within_none a b k q l e = absurd (omega arith)

pub within_more : (a b : List ℕ) (n : ℕ) → bit_or (get_or a n 0) (get_or b n 0) ≡ get_or b n 0 → WithinTo a b n → WithinTo a b (n + 1)
unfolding WithinTo
within_more a b n e w k q l x =
    ⊎_elim
    (λ (y : k ≡ n).
    subst (λ (z : ℕ). takes b z q ≡ true) (sym y)
    (sym (ap (λ (z : ℕ). bit z q) e) ∙ bit_or_left (get_or a n 0) (get_or b n 0) q (subst (λ (z : ℕ). takes a z q ≡ true) y x)))
    (λ y. w k q y x) (last-cases k n (omega arith))

pub within_all : (a b : List ℕ) (n : ℕ) → length a ≡ 8 → 8 ≤ n → WithinTo a b n → Within a b
unfolding WithinTo
within_all a b n e h w k q x =
    ⊎_elim (λ (l : 8 ≤ k). absurd (bit-of-zero q (sym (ap (λ (z : ℕ). bit z q) (past-none a k q e l)) ∙ x))) (λ l. w k q (omega arith) x) (le-or-lt 8 k)

abbrev pub Covered : ℕ × ℕ → Type 0
Covered p = bit_or p.0 p.1 ≡ p.1

within-each : (a b : List ℕ) → length a ≡ 8 → ((k : ℕ) → k < 8 → bit_or (get_or a k 0) (get_or b k 0) ≡ get_or b k 0) → Within a b
within-each a b e each k q x =
    ⊎_elim (λ (l : 8 ≤ k). absurd (bit-of-zero q (sym (ap (λ z. bit z q) (past-none a k q e l)) ∙ x)))
    (λ l. sym (ap (λ z. bit z q) (each k l)) ∙ bit_or_left (get_or a k 0) (get_or b k 0) q x) (le-or-lt 8 k)

-- a number is its union with one within it
union-within : (a b : List ℕ) → Within a b → (k : ℕ) → bit_or (get_or a k 0) (get_or b k 0) ≡ get_or b k 0
union-within a b w k =
    same_bits _ _
    (λ q. same_bool _ _ (λ e. ⊎_elim (λ x. w k q x) (λ x. x) (bit-or-cases (get_or a k 0) (get_or b k 0) q e)) (λ e. bit_or_right (get_or a k 0) (get_or b k 0) q e))

pub within-cases :
    (a b : List ℕ) → length a ≡ 8 → length b ≡ 8 → (r : Bool)
    → MatchBool r (AllWithin Covered (zip a b) 0 (length (zip a b))) ((k : ℕ) × (k < length (zip a b)) × HoldsAt (λ p. Covered p → ⊥) (zip a b) k)
    → Decided (Within a b) r
within-cases a b ea eb true h =
    within-each a b ea
    (λ k l.
    subst Covered (get_or-zip a b k (0, 0) (omega arith) (omega arith)) (h k (0, 0) (omega arith) (omega (arith, length-zip a b))))
within-cases a b ea eb false h =
    λ w.
    let l : h.0 < 8 = omega (arith, length-zip a b, h.1) in
    h.2 (0, 0) (subst Covered (sym (get_or-zip a b h.0 (0, 0) (omega arith) (omega arith))) (union-within a b w h.0))

-- ---- mixing
abbrev pub mix_word : ℕ → ℕ → ℕ → ℕ → ℕ
mix_word a b m n = bit_and (bit_or a (bit_and b m)) (bit_or b n)

module _ (a b m n q : ℕ) where
  mix-upper : bit (mix_word a b m n) q ≡ true → (bit a q ≡ true) ⊎ (bit b q ≡ true)
  mix-upper e =
      let (x, y) = both_true _ _ (sym (bit-and (bit_or a (bit_and b m)) (bit_or b n) q) ∙ e) in
      ⊎_elim (λ u. inl u) (λ u. inr (both_true _ _ (sym (bit-and b m q) ∙ u)).0) (bit-or-cases a (bit_and b m) q x)

  mix-lower : bit a q ≡ true → bit b q ≡ true → bit (mix_word a b m n) q ≡ true
  mix-lower x y =
      bit-and (bit_or a (bit_and b m)) (bit_or b n) q
      ∙ both-intro _ _ (bit_or_left a (bit_and b m) q x) (bit_or_left b n q y)

pub record MixedTo (a b r : List ℕ) (n : ℕ) : Type 0 where
  pub long : length r ≡ 8
  pub upper : (k q : ℕ) → k < n → takes r k q ≡ true → (takes a k q ≡ true) ⊎ (takes b k q ≡ true)
  pub lower : (k q : ℕ) → k < n → takes a k q ≡ true → takes b k q ≡ true → takes r k q ≡ true
  pub rest : (k : ℕ) → n ≤ k → get_or r k 0 ≡ get_or a k 0

pub mixed-more :
    (a b r : List ℕ) (i x y : ℕ) → i < 8 → MixedTo a b r i
    → MixedTo a b (set r i (mix_word (get_or a i 0) (get_or b i 0) x y)) (i + 1)
mixed-more a b r i x y h c =
    record {
      long = length-set r i v ∙ c.long;
      upper =
          λ k q l e.
          ⊎_elim
          (λ (z : k ≡ i).
          ⊎_elim (λ u. inl (subst (λ (w : ℕ). takes a w q ≡ true) (sym z) u)) (λ u. inr (subst (λ (w : ℕ). takes b w q ≡ true) (sym z) u))
          (mix-upper (get_or a i 0) (get_or b i 0) x y q (sym (ap (λ (w : ℕ). bit w q) (get_or-set_same r i v 0 (omega (arith, c.long)))) ∙ subst (λ (w : ℕ). takes (set r i v) w q ≡ true) z e)))
          (λ z. c.upper k q z (sym (ap (λ (w : ℕ). bit w q) (get_or-set_other r i k v 0 (λ w. omega arith))) ∙ e))
          (last-cases k i (omega arith));
      lower =
          λ k q l e f.
          ⊎_elim
          (λ (z : k ≡ i).
          subst (λ (w : ℕ). takes (set r i v) w q ≡ true) (sym z)
          (ap (λ (w : ℕ). bit w q) (get_or-set_same r i v 0 (omega (arith, c.long))) ∙ mix-lower (get_or a i 0) (get_or b i 0) x y q (subst (λ (w : ℕ). takes a w q ≡ true) z e) (subst (λ (w : ℕ). takes b w q ≡ true) z f)))
          (λ z. ap (λ (w : ℕ). bit w q) (get_or-set_other r i k v 0 (λ w. omega arith)) ∙ c.lower k q z e f)
          (last-cases k i (omega arith));
      rest = λ k l. get_or-set_other r i k v 0 (λ w. omega arith) ∙ c.rest k (omega arith);
    }
  where
    v : ℕ
    v = mix_word (get_or a i 0) (get_or b i 0) x y

-- a mix of a mix with the same other
pub mixed-again : (a b r s : List ℕ) → Mixed a b r → Mixed r b s → Mixed a b s
mixed-again a b r s m n =
    record {
      long = n.long;
      upper = λ k q e. ⊎_elim (λ x. m.upper k q x) (λ x. inr x) (n.upper k q e);
      lower = λ k q e f. n.lower k q (m.lower k q e f) f;
    }

pub mixed-same : (a b : List ℕ) → length a ≡ 8 → Mixed a b a
mixed-same a b e = record { long = e; upper = λ k q x. inl x; lower = λ k q x y. x }

pub mixed-within : (a b r c : List ℕ) → Mixed a b r → Within a c → Within b c → Within r c
mixed-within a b r c m x y k q e = ⊎_elim (λ z. x k q z) (λ z. y k q z) (m.upper k q e)
