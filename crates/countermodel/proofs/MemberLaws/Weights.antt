-- What falls on the walk: the id, plus 192 where the concept holds a variable.
use Prim.Native.Nat.{ℕ, ◌+◌, ◌*◌, ◌<◌, ◌≤◌}
use mathlib.Core.Path.{◌≡◌, refl, sym, ◌∙◌}
use mathlib.Core.List.{List}
use mathlib.Core.Bool.{Bool, true, false, false≢true}
use native.Mathlib.Omega.{arith}
use lib.ListN.{length, get_or}
use Rattle.subsumption.specs.Tables.{exists_at, and_at, var_at, node, count_of, tree, has_variable}
use Rattle.subsumption.proofs.Bools.{or-first, or-second}
use Rattle.subsumption.proofs.Trees.{inner-exists, inner-and, variable-exists, variable-and, variable-var}
use Rattle.countermodel.specs.Inner.Membership.{Walkable}

abbrev weighed : Bool → ℕ → ℕ
weighed true i = i + 192
weighed false i = i

pub weight : List ℕ → ℕ → ℕ
weight concepts i = weighed (has_variable (tree concepts i)) i

lighter : (a b : Bool) (i j : ℕ) → j < i → (b ≡ true → a ≡ true) → weighed b j < weighed a i
lighter true true i j l h = omega arith
lighter true false i j l h = omega arith
lighter false true i j l h = absurd (false≢true (h refl))
lighter false false i j l h = l

heavy : (b : Bool) (i : ℕ) → b ≡ true → 192 ≤ weighed b i
heavy true i e = omega arith
heavy false i e = absurd (false≢true e)

light : (b : Bool) (i : ℕ) → b ≡ false → weighed b i ≡ i
light true i e = absurd (false≢true (sym e))
light false i e = refl

module _ (concepts atoms assignment rows : List ℕ) (W : Walkable concepts atoms assignment rows) where
  pub atom-falls : (q : ℕ) → q < length atoms → 2 * weight concepts (get_or atoms q 0) + 1 < 384
  unfolding weight
  atom-falls q l =
      omega (arith, light (has_variable (tree concepts (get_or atoms q 0))) (get_or atoms q 0) (W.atoms-ground q l), W.atoms-known q l, W.few)

  module _ (i r j : ℕ) (e : node concepts i ≡ exists_at r j) where
    pub link-falls : 2 * weight concepts j + 2 < 2 * weight concepts i + 1
    unfolding weight
    link-falls =
        omega (arith, lighter (has_variable (tree concepts i)) (has_variable (tree concepts j)) i j (inner-exists concepts W.rising i _ _ e) (λ h. variable-exists concepts W.rising i _ _ e ∙ h))

    -- the inner ids are ids
    pub link-known : i < count_of concepts → j < count_of concepts
    link-known l = omega (arith, inner-exists concepts W.rising i r j e)

  module _ (i j k : ℕ) (e : node concepts i ≡ and_at j k) where
    pub first-falls : 2 * weight concepts j + 1 < 2 * weight concepts i + 1
    unfolding weight
    first-falls =
        omega (arith, lighter (has_variable (tree concepts i)) (has_variable (tree concepts j)) i j (inner-and concepts W.rising i _ _ e).0 (λ h. variable-and concepts W.rising i _ _ e ∙ or-first _ _ h))

    pub second-falls : 2 * weight concepts k + 1 < 2 * weight concepts i + 1
    unfolding weight
    second-falls =
        omega (arith, lighter (has_variable (tree concepts i)) (has_variable (tree concepts k)) i k (inner-and concepts W.rising i _ _ e).1 (λ h. variable-and concepts W.rising i _ _ e ∙ or-second _ _ h))

    pub first-known : i < count_of concepts → j < count_of concepts
    first-known l = omega (arith, (inner-and concepts W.rising i j k e).0)

    pub second-known : i < count_of concepts → k < count_of concepts
    second-known l = omega (arith, (inner-and concepts W.rising i j k e).1)

  module _ (i k : ℕ) (e : node concepts i ≡ var_at k) where
    pub variable-falls : 384 < 2 * weight concepts i + 1
    unfolding weight
    variable-falls = omega (arith, heavy (has_variable (tree concepts i)) i (variable-var concepts W.rising i k e))
