-- The stretches of a buffer: what is lent of it, and what is written on one leaves the others.
use Prim.Native.Nat.{ℕ, ◌+◌, ◌-◌, ◌*◌, ◌<◌, ◌≤◌, min}
use mathlib.Core.Path.{◌≡◌, sym, ap, ◌∙◌, subst}
use mathlib.Core.List.{List, ◌++◌}
use mathlib.Core.Logic.{inl, inr, ⊎_elim}
use native.Mathlib.Omega.{arith}
use native.Mathlib.Nat.{mul-le-mul_right}
use lib.ListN.{length, get_or, take, drop, length-take, length-drop, length-append, get_or-append, get_or-eq_default}
use lib.Seq.{get_or-take, get_or-drop, get_or-append-add, length-take-le, take_at, drop_at, ext_get_or}
use Rattle.subsumption.proofs.Bools.{le-or-lt}
use Rattle.batches.specs.Batch.{stretch}
use Rattle.batches.specs.Inner.Find.{OnStretch}

-- ---- parts that agree at their positions
part_same :
    (a b : List ℕ) (from to m n : ℕ) → length (take m (drop from a)) ≡ length (take n (drop to b))
    → ((i : ℕ) → i < m → i < n → get_or a (from + i) 0 ≡ get_or b (to + i) 0) → take m (drop from a) ≡ take n (drop to b)
part_same a b from to m n e h = ext_get_or 0 _ _ e at
  where
    short : (j : ℕ) (l : List ℕ) (i : ℕ) → i < length (take j l) → i < j
    short j l i x = omega (arith, length-take j l)

    at : (i : ℕ) → i < length (take m (drop from a)) → get_or (take m (drop from a)) i 0 ≡ get_or (take n (drop to b)) i 0
    at i l =
        let p : i < m = short m (drop from a) i l in
        let q : i < n = short n (drop to b) i (subst (λ (z : ℕ). i < z) e l) in
        get_or-take m _ i 0 p ∙ get_or-drop from a i 0 ∙ h i p q ∙ sym (get_or-drop to b i 0) ∙ sym (get_or-take n _ i 0 q)

part-long : (n from : ℕ) (l : List ℕ) → length (take n (drop from l)) ≡ min n (length l - from)
part-long n from l = length-take n _ ∙ ap (min n) (length-drop from l)

module _ (variables k : ℕ) (a b : List ℕ) (e : length a ≡ length b) where
  pub stretch-same :
      ((p : ℕ) → k * variables ≤ p → p < k * variables + variables → get_or a p 0 ≡ get_or b p 0) → stretch variables a k ≡ stretch variables b k
  unfolding stretch
  stretch-same h =
      part_same a b (k * variables) (k * variables) variables variables
      (part-long variables _ a ∙ ap (λ (z : ℕ). min variables (z - k * variables)) e ∙ sym (part-long variables _ b))
      (λ i l m. h (k * variables + i) (omega arith) (omega arith))

pub drop-same : (n : ℕ) (a b : List ℕ) → length a ≡ length b → ((p : ℕ) → n ≤ p → get_or a p 0 ≡ get_or b p 0) → drop n a ≡ drop n b
drop-same n a b e h =
    ext_get_or 0 _ _ (length-drop n a ∙ ap (λ (z : ℕ). z - n) e ∙ sym (length-drop n b))
    (λ i l. get_or-drop n a i 0 ∙ h _ (omega arith) ∙ sym (get_or-drop n b i 0))

cut : (a v n from to : ℕ) → from ≡ min a n → to ≡ min (from + v) n → to - from ≡ min v (n - a)
cut a v n from to e f = omega arith

-- ---- what is lent: the stretch, as far as the buffer reaches
module _ (variables k from to : ℕ) where
  pub lent-stretch :
      (l : List ℕ) → from ≡ min (k * variables) (length l) → to ≡ min (from + variables) (length l) → take (to - from) (drop from l) ≡ stretch variables l k
  unfolding stretch
  lent-stretch l e f =
      part_same l l from (k * variables) (to - from) variables
      (length-take-le (to - from) (drop from l) (omega (arith, length-drop from l)) ∙ cut (k * variables) variables (length l) from to e f ∙ sym (part-long variables (k * variables) l))
      (λ i p q. ap (λ (z : ℕ). get_or l z 0) (omega arith))

  module _ (before part : List ℕ) (e : from ≡ min (k * variables) (length before)) (f : to ≡ min (from + variables) (length before)) (g : length part ≡ to - from) where
    abbrev after : List ℕ
    after = take from before ++ (part ++ drop (to - from) (drop from before))

    front_long : length (take from before) ≡ from
    front_long = length-take-le from before (omega arith)

    after-long : length after ≡ length before
    after-long =
        length-append (take from before) (part ++ drop (to - from) (drop from before))
        ∙ omega (arith, length-append part (drop (to - from) (drop from before)), front_long, length-drop (to - from) (drop from before), length-drop from before)

    pub written : stretch variables after k ≡ part
    written =
        sym (lent-stretch after (e ∙ ap (min (k * variables)) (sym after-long)) (f ∙ ap (min (from + variables)) (sym after-long)))
        ∙ ap (take (to - from)) (drop_at (take from before) _ from front_long) ∙ take_at part _ (to - from) g

    outside-before : (p : ℕ) → p < from → get_or after p 0 ≡ get_or before p 0
    outside-before p l = get_or-append (take from before) _ 0 p (omega (arith, front_long)) ∙ get_or-take from before p 0 l

    outside-after : (p : ℕ) → to ≤ p → get_or after p 0 ≡ get_or before p 0
    outside-after p l =
        ap (λ (z : ℕ). get_or after z 0) (split front_long) ∙ get_or-append-add (take from before) _ (p - from) 0
        ∙ ap (λ (z : ℕ). get_or (part ++ drop (to - from) (drop from before)) z 0) rest ∙ get_or-append-add part (drop (to - from) (drop from before)) (p - to) 0
        ∙ get_or-drop (to - from) (drop from before) (p - to) 0 ∙ get_or-drop from before _ 0 ∙ ap (λ (z : ℕ). get_or before z 0) (omega arith)
      where
        split : length (take from before) ≡ from → p ≡ length (take from before) + (p - from)
        split x = omega arith

        rest : p - from ≡ length part + (p - to)
        rest = omega arith

    past : (p : ℕ) → length before ≤ p → get_or after p 0 ≡ get_or before p 0
    past p l =
        get_or-eq_default after 0 {n = p} (omega (arith, after-long)) ∙ sym (get_or-eq_default before 0 {n = p} l)

    pub written_on : OnStretch variables k before after
    written_on =
        record {
          size = after-long;
          outside =
              λ p.
              ⊎_elim (λ (l : p < k * variables). ⊎_elim (λ (m : from ≤ p). past p (omega arith)) (λ m. outside-before p m) (le-or-lt from p))
              (λ (l : k * variables + variables ≤ p). outside-after p (omega arith));
        }

-- ---- one stretch written on
module _ (variables k : ℕ) (before after : List ℕ) (w : OnStretch variables k before after) where
  pub earlier-kept : (j : ℕ) → j < k → stretch variables after j ≡ stretch variables before j
  earlier-kept j l =
      stretch-same variables j after before w.size
      (λ p m n. w.outside p (inl (omega (arith, mul-le-mul_right {m = j + 1} {n = k} variables (omega arith)))))

  pub later-kept : (p : ℕ) → (k + 1) * variables ≤ p → get_or after p 0 ≡ get_or before p 0
  later-kept p l = w.outside p (inr (omega arith))
