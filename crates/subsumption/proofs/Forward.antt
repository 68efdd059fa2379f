-- Check 3, by the kind of a row; and check 4 of one pair.
use Prim.Native.Nat.{ℕ, zero, suc, ◌<◌, ◌≤◌}
use mathlib.Core.Path.{◌≡◌, refl, sym}
use mathlib.Core.Bool.{Bool, true, false, not}
use mathlib.Core.List.{List}
use mathlib.Core.Logic.{⊎_elim}
use lib.Dec.{ltb, leb}
use Rattle.subsumption.proofs.Bools.{le-or-lt}
use borrow.Author.Tests.{lt-ltb, le-ltb, le-leb, lt-leb}
use Rattle.subsumption.specs.declared.tables.Pair.{Pair}
use Rattle.subsumption.specs.Tables.{or, decode, left_of, right_of}
use Rattle.subsumption.specs.Inner.Tables.{pair_of}
use Rattle.subsumption.specs.Check.{forward, no_concept}

-- the code's test and the paper's
pub leb-not-ltb : (i j : ℕ) → leb i j ≡ not (ltb j i)
leb-not-ltb i j = ⊎_elim (λ h. rw (le-leb i j h, le-ltb j i h)) (λ h. rw (lt-leb i j h, lt-ltb j i h)) (le-or-lt i j)

module _ (i k a b : ℕ) where
  pub and_first : k ≡ 3 → i ≤ a → true ≡ forward i (decode k a b)
  unfolding forward decode or
  and_first e h = rw (e, le-ltb a i h)

  pub and_second : k ≡ 3 → a < i → leb i b ≡ forward i (decode k a b)
  unfolding forward decode or
  and_second e h = rw (e, lt-ltb a i h, leb-not-ltb i b)

pub no_inner : (i k a b : ℕ) → (k ≡ 2 → ⊥) → (k ≡ 3 → ⊥) → false ≡ forward i (decode k a b)
unfolding forward decode
no_inner i zero a b h2 h3 = refl
no_inner i (suc zero) a b h2 h3 = refl
no_inner i (suc (suc zero)) a b h2 h3 = absurd (h2 refl)
no_inner i (suc (suc (suc zero))) a b h2 h3 = absurd (h3 refl)
no_inner i (suc (suc (suc (suc zero)))) a b h2 h3 = refl
no_inner i (suc (suc (suc (suc (suc k))))) a b h2 h3 = refl

module _ (count left right : ℕ) where
  pub no-left : count ≤ left → true ≡ no_concept count left right
  unfolding no_concept or
  no-left h = rw (le-ltb left count h)

  pub no-right : left < count → leb count right ≡ no_concept count left right
  unfolding no_concept or
  no-right h = rw (lt-ltb left count h, leb-not-ltb count right)

pub pair-unknown :
    (count : ℕ) (pairs : List ℕ) (m : ℕ) (pair : Pair) (r : Bool) → pair ≡ pair_of pairs m → r ≡ no_concept count pair.left pair.right
    → no_concept count (left_of pairs m) (right_of pairs m) ≡ r
pair-unknown count pairs m pair r e h = sym (rw e at h)
