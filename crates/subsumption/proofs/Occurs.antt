-- Which ids stand in an id, by its row.
use Prim.Native.Nat.{ℕ, suc, ◌<◌, ◌≤◌}
use mathlib.Core.Path.{◌≡◌, refl, sym, ap, ap₂, ◌∙◌, subst}
use mathlib.Core.List.{List}
use mathlib.Core.Bool.{Bool, true, false≢true}
use mathlib.Core.Logic.{⊎_elim}
use native.Mathlib.Omega.{arith}
use lib.Dec.{eqb}
use borrow.Author.Tests.{eqb-true, eq-eqb}
use Rattle.subsumption.specs.Tables.{or, Node, top_at, name_at, exists_at, and_at, var_at, node}
use Rattle.subsumption.specs.Atoms.{inside, occurs_to, occurs}
use Rattle.subsumption.specs.Inner.Tables.{Rising}
use Rattle.subsumption.proofs.Bools.{or_cases, or-first, or-second}
use Rattle.subsumption.proofs.Depth.{by-smaller, enough}
use Rattle.subsumption.proofs.Trees.{inner-exists, inner-and}
use Rattle.subsumption.proofs.Inward.{Inward, Ground, ground-inward, below-inward}

inside-smaller : (f g : ℕ → Bool) (i : ℕ) (m : Node) → Rising i m → ((j : ℕ) → j < i → f j ≡ g j) → inside f m ≡ inside g m
unfolding inside
inside-smaller f g i top_at up h = refl
inside-smaller f g i (name_at n) up h = refl
inside-smaller f g i (exists_at r j) up h = h j up
inside-smaller f g i (and_at j k) up h = ap₂ or (h j up.0) (h k up.1)
inside-smaller f g i (var_at k) up h = refl

module _ (concepts : List ℕ) (rising : (i : ℕ) → Rising i (node concepts i)) (p : ℕ) where
  pub occurs-eq : (i : ℕ) → occurs concepts p i ≡ or (eqb p i) (inside (occurs concepts p) (node concepts i))
  unfolding occurs occurs_to
  occurs-eq =
      enough (λ f i. or (eqb p i) (inside f (node concepts i))) (λ d i. occurs_to concepts d p i) (λ d i. refl)
      (λ f g i h. ap (or (eqb p i)) (inside-smaller f g i (node concepts i) (rising i) h))

  pub occurs-self : occurs concepts p p ≡ true
  occurs-self = occurs-eq p ∙ or-first _ _ (eq-eqb p p refl)

  occurs-inside : (i : ℕ) → inside (occurs concepts p) (node concepts i) ≡ true → occurs concepts p i ≡ true
  occurs-inside i h = occurs-eq i ∙ or-second (eqb p i) _ h

  pub occurs-exists : (i r j : ℕ) → node concepts i ≡ exists_at r j → occurs concepts p j ≡ true → occurs concepts p i ≡ true
  unfolding inside
  occurs-exists i r j e h = occurs-inside i (ap (inside (occurs concepts p)) e ∙ h)

  pub occurs-first : (i j k : ℕ) → node concepts i ≡ and_at j k → occurs concepts p j ≡ true → occurs concepts p i ≡ true
  unfolding inside
  occurs-first i j k e h = occurs-inside i (ap (inside (occurs concepts p)) e ∙ or-first _ _ h)

  pub occurs-second : (i j k : ℕ) → node concepts i ≡ and_at j k → occurs concepts p k ≡ true → occurs concepts p i ≡ true
  unfolding inside
  occurs-second i j k e h = occurs-inside i (ap (inside (occurs concepts p)) e ∙ or-second _ _ h)

  -- What passes to the inner ids passes to all that stand in an id.
  pub occurs-inward : (P : ℕ → Type 0) → Inward concepts P → (i : ℕ) → occurs concepts p i ≡ true → P i → P p
  unfolding inside
  occurs-inward P inward =
      by-smaller (λ i. occurs concepts p i ≡ true → P i → P p)
      (λ i smaller h g.
      ⊎_elim (λ e. subst P (sym (eqb-true p i e)) g) (λ d. go i smaller g (node concepts i) refl d) (or_cases _ _ (sym (occurs-eq i) ∙ h)))
    where
      go :
          (i : ℕ) → ((j : ℕ) → j < i → occurs concepts p j ≡ true → P j → P p) → P i
          → (m : Node) → node concepts i ≡ m → inside (occurs concepts p) m ≡ true → P p
      go i smaller g top_at e h = absurd (false≢true h)
      go i smaller g (name_at n) e h = absurd (false≢true h)
      go i smaller g (exists_at r j) e h = smaller j (inner-exists concepts rising i r j e) h (inward.inner i r j e g)
      go i smaller g (and_at j k) e h =
          ⊎_elim (λ o. smaller j (inner-and concepts rising i j k e).0 o (inward.first i j k e g))
          (λ o. smaller k (inner-and concepts rising i j k e).1 o (inward.second i j k e g)) (or_cases _ _ h)
      go i smaller g (var_at k) e h = absurd (false≢true h)

  pub occurs-ground : (i : ℕ) → occurs concepts p i ≡ true → Ground concepts i → Ground concepts p
  occurs-ground = occurs-inward (Ground concepts) (ground-inward concepts rising)

  pub occurs-le : (i : ℕ) → occurs concepts p i ≡ true → p ≤ i
  occurs-le i h = omega (arith, occurs-inward (λ j. j < suc i) (below-inward concepts rising (suc i)) i h (omega arith))
