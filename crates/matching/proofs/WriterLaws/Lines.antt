-- Writing a line, and what it leaves of the lines before.
use Prim.Native.Nat.{ℕ, zero, suc, ◌+◌, ◌-◌, ◌*◌, ◌<◌, ◌≤◌}
use mathlib.Core.Path.{◌≡◌, refl, sym, ap, ap₂, ◌∙◌, subst}
use mathlib.Core.List.{List, [], ◌∷◌, ◌++◌, append-nil}
use mathlib.Core.Bool.{Bool, false}
use native.Mathlib.Omega.{arith}
use lib.Dec.{eqb}
use lib.ListN.{length, get_or, set, take, drop, length-append, length-drop, get_or-append}
use borrow.Rule.Slice.PartMut.{put_mid, post_of, Post-is}
use lib.Seq.{take_all, drop-drop, drop-length, length-take-le, get_or-append-add, get_or-take, get_or-drop}
use borrow.Author.Tests.{ne_eqb, eq-eqb}
use Rattle.subsumption.specs.Tables.{Tables, or, both, any_below}
use Rattle.subsumption.specs.Rules.{follows}
use Rattle.subsumption.proofs.Bools.{both-none, both-skip}
use Rattle.matching.specs.Derivation.{rule_at, left_at, right_at, extra_at, pair_at, proved_by, line_follows}
use Rattle.matching.specs.Inner.Writer.{in_front, LineWritten}
use Rattle.matching.proofs.DerivationLaws.Monotone.{Reads, follows_same}

pub put_front :
    (rest : List ℕ) (rule left right extra : ℕ) → 4 ≤ length rest → set (set (set (set rest 0 rule) 1 left) 2 right) 3 extra ≡ in_front rule left right extra rest
put_front [] rule left right extra h = absurd (omega arith)
put_front (a ∷ []) rule left right extra h = absurd (omega arith)
put_front (a ∷ b ∷ []) rule left right extra h = absurd (omega arith)
put_front (a ∷ b ∷ c ∷ []) rule left right extra h = absurd (omega arith)
put_front (a ∷ b ∷ c ∷ d ∷ rest) rule left right extra h = refl

pub pair-not : (left i right j : ℕ) → (left ≡ i → ⊥) → false ≡ both (eqb left i) (eqb right j)
pair-not left i right j h = sym (both-none _ _ (ne_eqb left i h))

pub pair-second : (left i right j : ℕ) → left ≡ i → eqb right j ≡ both (eqb left i) (eqb right j)
pair-second left i right j h = sym (both-skip _ _ (eq-eqb left i h))

-- the buffer with a line in front of its part from `at` on
module _ (before : List ℕ) (n rule left right extra : ℕ) (h : (n + 1) * 4 ≤ length before) where
  front : length (take (n * 4) before) ≡ n * 4
  front = length-take-le (n * 4) before (omega arith)

  at : (after : List ℕ) → after ≡ take (n * 4) before ++ (rule ∷ left ∷ right ∷ extra ∷ drop ((n + 1) * 4) before) → (p : ℕ) (i : ℕ) → n * 4 + i ≡ p
      → get_or after p 0 ≡ get_or (rule ∷ left ∷ right ∷ extra ∷ drop ((n + 1) * 4) before) i 0
  at after e p i f =
      ap (λ z. get_or z p 0) e
      ∙ subst (λ (z : ℕ). get_or (take (n * 4) before ++ (rule ∷ left ∷ right ∷ extra ∷ drop ((n + 1) * 4) before)) z 0 ≡ get_or (rule ∷ left ∷ right ∷ extra ∷ drop ((n + 1) * 4) before) i 0)
      (ap (λ (z : ℕ). z + i) front ∙ f) (get_or-append-add (take (n * 4) before) _ i 0)

  pub line-written : (after : List ℕ) → after ≡ take (n * 4) before ++ (rule ∷ left ∷ right ∷ extra ∷ drop ((n + 1) * 4) before) → LineWritten before after n rule left right extra
  line-written after e =
      record {
        size = ap length e ∙ rw (length-append, front, length-drop) (omega arith);
        rule-is = at after e (n * 4) 0 (omega arith);
        left_is = at after e (n * 4 + 1) 1 (omega arith);
        right_is = at after e (n * 4 + 2) 2 (omega arith);
        extra-is = at after e (n * 4 + 3) 3 (omega arith);
        under = λ p l. ap (λ z. get_or z p 0) e ∙ get_or-append (take (n * 4) before) _ 0 p (omega (arith, front)) ∙ get_or-take (n * 4) before p 0 l;
        over = λ p l.
            at after e p (suc (suc (suc (suc (p - (n + 1) * 4))))) (omega arith)
            ∙ get_or-drop ((n + 1) * 4) before (p - (n + 1) * 4) 0 ∙ ap (λ (z : ℕ). get_or before z 0) (back p l);
      }
    where
      back : (p : ℕ) → (n + 1) * 4 ≤ p → (n + 1) * 4 + (p - (n + 1) * 4) ≡ p
      back p l = omega arith

  pub write-front :
      (part : List ℕ) → part ≡ in_front rule left right extra (take (length before - n * 4) (drop (n * 4) before))
      → LineWritten before (put_mid (n * 4) (length before - n * 4) before part) n rule left right extra
  write-front part e = line-written _ (ap (λ z. take (n * 4) before ++ z) (after-part ∙ ap (λ z. rule ∷ left ∷ right ∷ extra ∷ z) rest))
    where
      whole : take (length before - n * 4) (drop (n * 4) before) ≡ drop (n * 4) before
      whole = take_all (length before - n * 4) (drop (n * 4) before) (rw length-drop (omega arith))

      next : n * 4 + 4 ≡ (n + 1) * 4
      next = omega arith

      rest : drop 4 (take (length before - n * 4) (drop (n * 4) before)) ≡ drop ((n + 1) * 4) before
      rest = ap (drop 4) whole ∙ drop-drop 4 (n * 4) before ∙ ap (λ (z : ℕ). drop z before) next

      none : post_of (n * 4) (length before - n * 4) before ≡ []
      none = Post-is (n * 4) (length before) before (omega arith) ∙ drop-length before

      after-part : part ++ post_of (n * 4) (length before - n * 4) before ≡ in_front rule left right extra (take (length before - n * 4) (drop (n * 4) before))
      after-part = ap (λ z. part ++ z) none ∙ append-nil part ∙ e

-- ---- lists that agree on their first n lines
pub record Agree (a b : List ℕ) (n : ℕ) : Type 0 where
  pub each : (p : ℕ) → p < n * 4 → get_or a p 0 ≡ get_or b p 0

module _ (a b : List ℕ) (n : ℕ) (g : Agree a b n) where
  pub pair-agree : (i j k : ℕ) → k < n → pair_at a i j k ≡ pair_at b i j k
  unfolding pair_at
  pair-agree i j k h =
      ap₂ (λ (x : ℕ) (y : ℕ). both (eqb i x) (eqb j y)) (g.each (k * 4 + 1) (omega arith)) (g.each (k * 4 + 2) (omega arith))

  pub proved-agree : (i j k : ℕ) → k ≤ n → proved_by a k i j ≡ proved_by b k i j
  unfolding proved_by any_below
  proved-agree i j zero h = refl
  proved-agree i j (suc k) h = ap₂ or (pair-agree i j k (omega arith)) (proved-agree i j k (omega arith))

  pub line-agree : (t : Tables) (assignment : List ℕ) → Reads t → (k : ℕ) → k < n → line_follows t assignment a k ≡ line_follows t assignment b k
  unfolding line_follows
  line-agree t assignment reads k h =
      let r : rule_at a k ≡ rule_at b k = g.each (k * 4) (omega arith) in
      let l : left_at a k ≡ left_at b k = g.each (k * 4 + 1) (omega arith) in
      let s : right_at a k ≡ right_at b k = g.each (k * 4 + 2) (omega arith) in
      let e : extra_at a k ≡ extra_at b k = g.each (k * 4 + 3) (omega arith) in
      follows_same t assignment reads (proved_by a k) (proved_by b k) (λ i j _ _. proved-agree i j k (omega arith)) (rule_at a k) (left_at a k) (right_at a k) (extra_at a k)
      ∙ numbers t assignment (proved_by b k) _ _ _ _ _ _ _ _ r l s e
    where
      numbers :
          (t : Tables) (assignment : List ℕ) (p : ℕ → ℕ → Bool) (r r' l l' s s' e e' : ℕ) → r ≡ r' → l ≡ l' → s ≡ s' → e ≡ e'
          → follows t assignment p r l s e ≡ follows t assignment p r' l' s' e'
      numbers t assignment p r r' l l' s s' e e' a b c d = cc
