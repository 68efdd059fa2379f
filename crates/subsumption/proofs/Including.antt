-- The steps at the inclusions.
use Prim.Native.Nat.{ℕ, ◌+◌, ◌<◌, ◌≤◌}
use mathlib.Core.Path.{◌≡◌, refl, ◌∙◌}
use mathlib.Core.List.{List}
use mathlib.Core.Bool.{Bool, true, false, ◌||◌}
use native.Mathlib.Omega.{arith}
use lib.ListN.{length}
use Rattle.subsumption.specs.Tables.{count_of, pairs_of, left_of, right_of}
use Rattle.subsumption.specs.Inner.Columns.{has, Into, Takes}
use Rattle.subsumption.specs.Inner.Closure.{Ready, LowPairs, LeftKnown, flow-included, Pass, IncludePass}
use Rattle.subsumption.proofs.Passes.{loop-first, loop-more, loop-done, flow-pass}

pub ready-pairs : {concepts inclusions atoms assignment : List ℕ} → Ready concepts inclusions atoms assignment → LowPairs inclusions
ready-pairs R =
    record { left = λ m h. omega (arith, R.left-known m h, R.few); right = λ m h. omega (arith, R.right-known m h, R.few) }

pub ready-left : {concepts inclusions atoms assignment : List ℕ} → Ready concepts inclusions atoms assignment → LeftKnown concepts inclusions
ready-left R = record { few = R.few; left = R.left-known }

-- the loop over the inclusions
module _ (inclusions : List ℕ) where
  abbrev Step : List ℕ → ℕ → List ℕ → Type 0
  Step concepts k l = Into (count_of concepts) l (left_of inclusions k) (right_of inclusions k)

  pub record Included (before after : List ℕ) (changed : Bool) (m : ℕ) : Type 0 where
    pub within : m ≤ pairs_of inclusions
    pub long : length after ≡ length before
    pub passed :
        (concepts : List ℕ) (wide : ℕ → ℕ → Bool) (choose : ℕ → List ℕ) → LeftKnown concepts inclusions
        → Pass concepts inclusions wide choose (λ l. (k : ℕ) → k < m → Step concepts k l) before after changed

  pub included-first : (columns : List ℕ) → Included columns columns false 0
  included-first columns =
      record { within = omega arith; long = refl; passed = λ concepts wide choose K. loop-first (Step concepts) columns }

  pub included-more :
      {before mid after : List ℕ} {a b : Bool} {m : ℕ} → Included before mid a m → m < pairs_of inclusions
      → Takes mid after (λ j. j ≡ right_of inclusions m) (λ i. has mid i (left_of inclusions m) ≡ true) b
      → Included before after (a || b) (m + 1)
  included-more {m = m} I h t =
      record {
        within = omega arith;
        long = t.long ∙ I.long;
        passed =
            λ concepts wide choose K.
            loop-more (Step concepts) m (I.passed concepts wide choose K)
            (flow-pass (left_of inclusions m) (right_of inclusions m) K.few (K.left m h) (λ g i l w. flow-included i m l h w) t);
      }

  pub included-done :
      {before after : List ℕ} {changed : Bool} {m : ℕ} → Included before after changed m → pairs_of inclusions ≤ m
      → IncludePass inclusions before after changed
  included-done {m = m} I h concepts wide choose K = loop-done (Step concepts) m (pairs_of inclusions) h (I.passed concepts wide choose K)
