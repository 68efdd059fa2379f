-- Properties of ids that pass to the inner ids.
use Prim.Native.Nat.{ℕ, ◌<◌}
use mathlib.Core.Path.{◌≡◌, sym, ◌∙◌}
use mathlib.Core.List.{List}
use mathlib.Core.Bool.{false}
use native.Mathlib.Omega.{arith}
use Rattle.subsumption.specs.Tables.{exists_at, and_at, node, tree, has_variable}
use Rattle.subsumption.specs.Inner.Tables.{Rising}
use Rattle.subsumption.proofs.Bools.{or-false}
use Rattle.subsumption.proofs.Trees.{inner-exists, inner-and, variable-exists, variable-and}

pub record Inward (concepts : List ℕ) (P : ℕ → Type 0) : Type 0 where
  pub inner : (i r j : ℕ) → node concepts i ≡ exists_at r j → P i → P j
  pub first : (i j k : ℕ) → node concepts i ≡ and_at j k → P i → P j
  pub second : (i j k : ℕ) → node concepts i ≡ and_at j k → P i → P k

-- The id's concept holds no variable.
abbrev pub Ground : List ℕ → ℕ → Type 0
Ground concepts i = has_variable (tree concepts i) ≡ false

module _ (concepts : List ℕ) (rising : (i : ℕ) → Rising i (node concepts i)) where
  pub ground-inward : Inward concepts (Ground concepts)
  ground-inward =
      record {
        inner = λ i r j e g. sym (variable-exists concepts rising i r j e) ∙ g;
        first = λ i j k e g. (or-false _ _ (sym (variable-and concepts rising i j k e) ∙ g)).0;
        second = λ i j k e g. (or-false _ _ (sym (variable-and concepts rising i j k e) ∙ g)).1;
      }

  pub below-inward : (n : ℕ) → Inward concepts (λ i. i < n)
  below-inward n =
      record {
        inner = λ i r j e l. omega (arith, inner-exists concepts rising i r j e);
        first = λ i j k e l. omega (arith, (inner-and concepts rising i j k e).0);
        second = λ i j k e l. omega (arith, (inner-and concepts rising i j k e).1);
      }
