-- Twins are ids of one concept; each id has a lowest twin.
use Prim.Native.Nat.{ℕ, ◌<◌, ◌≤◌}
use mathlib.Core.Path.{◌≡◌, refl, sym, ap, ◌∙◌}
use mathlib.Core.List.{List}
use mathlib.Core.Bool.{Bool, true, false, not, true≢false, false≢true}
use mathlib.Core.Logic.{⊎_elim}
use native.Mathlib.Omega.{arith}
use native.Mathlib.Decide.{ℕ_discrete}
use borrow.Author.Tests.{not-true}
use Rattle.subsumption.specs.Tables.{any_below, tree, concept-discrete}
use Rattle.subsumption.specs.Atoms.{holds, twin, is_lowest}
use Rattle.subsumption.proofs.Bools.{any_below-intro, any_below-elim, le-or-lt}
use Rattle.subsumption.proofs.Depth.{by-smaller}

holds-true : {A : Type 0} (d : Dec A) → holds d ≡ true → A
unfolding holds
holds-true (yes a) h = a
holds-true (no n) h = absurd (false≢true h)

true-holds : {A : Type 0} (d : Dec A) → A → holds d ≡ true
unfolding holds
true-holds (yes a) h = refl
true-holds (no n) h = absurd (n h)

module _ (concepts : List ℕ) where
  pub twin-same : (p q : ℕ) → twin concepts p q ≡ true → tree concepts p ≡ tree concepts q
  unfolding twin
  twin-same p q h = holds-true (concept-discrete ℕ_discrete (tree concepts p) (tree concepts q)) h

  pub same-twin : (p q : ℕ) → tree concepts p ≡ tree concepts q → twin concepts p q ≡ true
  unfolding twin
  same-twin p q e = true-holds (concept-discrete ℕ_discrete (tree concepts p) (tree concepts q)) e

  pub lowest-least : (p q : ℕ) → is_lowest concepts p ≡ true → tree concepts p ≡ tree concepts q → p ≤ q
  unfolding is_lowest
  lowest-least p q h e =
      ⊎_elim (λ l. l) (λ l. absurd (true≢false (sym (any_below-intro p (twin concepts p) q l (same-twin p q e)) ∙ not-true _ h))) (le-or-lt p q)

  pub lowest-intro : (p : ℕ) → ((q : ℕ) → q < p → tree concepts p ≡ tree concepts q → ⊥) → is_lowest concepts p ≡ true
  unfolding is_lowest
  lowest-intro p none = go (any_below p (twin concepts p)) refl
    where
      go : (b : Bool) → any_below p (twin concepts p) ≡ b → not (any_below p (twin concepts p)) ≡ true
      go true e = absurd (let (q, l, t) = any_below-elim p (twin concepts p) e in none q l (twin-same p q t))
      go false e = ap not e

  pub record LowestOf (q : ℕ) : Type 0 where
    pub id : ℕ
    pub low : id ≤ q
    pub same : tree concepts id ≡ tree concepts q
    pub lowest : is_lowest concepts id ≡ true

  pub lowest-of : (q : ℕ) → LowestOf q
  unfolding is_lowest
  lowest-of = by-smaller LowestOf (λ q smaller. go q smaller (any_below q (twin concepts q)) refl)
    where
      go : (q : ℕ) → ((p : ℕ) → p < q → LowestOf p) → (b : Bool) → any_below q (twin concepts q) ≡ b → LowestOf q
      go q smaller true e =
          let (p, l, t) = any_below-elim q (twin concepts q) e in
          let s = smaller p l in
          record { id = s.id; low = omega (arith, s.low); same = s.same ∙ sym (twin-same q p t); lowest = s.lowest }
      go q smaller false e = record { id = q; low = omega arith; same = refl; lowest = ap not e }
