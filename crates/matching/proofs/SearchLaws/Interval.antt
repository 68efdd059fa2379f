-- Why the search is right: what a test of either side tells of a whole interval, and how an interval is split.
use Rattle.std.specs.Prelude.{Option, Some, None}
use Rattle.subsumption.specs.Refusal.{Done}
use Prim.Native.Nat.{ℕ, ◌+◌, ◌*◌, ◌/◌, ◌%◌, ◌<◌, ◌≤◌}
use mathlib.Core.Path.{◌≡◌, refl, sym, ap, ◌∙◌, subst}
use mathlib.Core.List.{List}
use mathlib.Core.Bool.{Bool, true, false, not, false≢true, true≢false}
use mathlib.Core.Logic.{◌⊎◌, inl, inr, ⊎_elim}
use native.Mathlib.Omega.{arith}
use lib.ListN.{length, take}
use lib.Seq.{length-take-le}
use Rattle.subsumption.specs.Tables.{Tables, pairs_of, right_of, tree, has_variable}
use Rattle.subsumption.specs.Table.{counted}
use Rattle.subsumption.specs.Check.{table_fault, assignment_fault}
use Rattle.subsumption.proofs.Bools.{both_true, both-intro, eq-or-ne}
use Rattle.subsumption.proofs.MarkLaws.{counted-less}
use Rattle.subsumption.proofs.Accepted.{well_formed}
use Rattle.matching.specs.Solving.{takes}
use Rattle.matching.specs.Inner.Search.{Decided, HoldsAt, Within, SolutionIn, NoSolution}
use Rattle.matching.specs.Inner.Search.Problem.{AskedAt}
use Rattle.matching.specs.Inner.Search.Pairs.{Changed}
use Rattle.matching.specs.Inner.Search.Interval.{IntervalOf, Picked, undecided, open_pairs}
use Rattle.matching.specs.Inner.Search.Solve.{Refuted}
use Rattle.matching.proofs.SearchLaws.Fronts.{front-known, front-takes, front-within, accepted-bits, within-accepted}
use Rattle.matching.proofs.SearchLaws.Monotone.{monotone, antitone, left-free}

-- ---- one pair
pub open-high : (low high : List ℕ) (p : ℕ) → undecided low high p ≡ true → takes high (p / 64) (p % 64) ≡ true
unfolding undecided
open-high low high p h = (both_true _ _ h).0

not-true' : (b : Bool) → not b ≡ true → b ≡ false
not-true' true h = absurd (false≢true h)
not-true' false h = refl

pub open-low : (low high : List ℕ) (p : ℕ) → undecided low high p ≡ true → takes low (p / 64) (p % 64) ≡ false
unfolding undecided
open-low low high p h = not-true' _ (both_true _ _ h).1

pub open-intro : (low high : List ℕ) (p : ℕ) → takes high (p / 64) (p % 64) ≡ true → takes low (p / 64) (p % 64) ≡ false → undecided low high p ≡ true
unfolding undecided
open-intro low high p a b = both-intro _ _ a (ap not b)

pub same_or_not : (l r k q : ℕ) → ((l ≡ k) × (r ≡ q)) ⊎ ((l ≡ k) × (r ≡ q) → ⊥)
same_or_not l r k q =
    ⊎_elim (λ a. ⊎_elim (λ b. inl (a, b)) (λ b. inr (λ x. b x.1)) (eq-or-ne r q)) (λ a. inr (λ x. a x.0)) (eq-or-ne l k)

pub at_pair : (a : List ℕ) (l r k q : ℕ) (b : Bool) → (l ≡ k) × (r ≡ q) → takes a k q ≡ b → takes a l r ≡ b
at_pair a l r k q b (e, f) h = ap (λ (z : ℕ). takes a z r) e ∙ ap (takes a k) f ∙ h

module _ (before after : List ℕ) (k q : ℕ) where
  pub grown : Changed before after k q true → Within before after
  grown c l r e = ⊎_elim (λ x. at_pair after l r k q true x c.here) (λ n. c.elsewhere l r n ∙ e) (same_or_not l r k q)

  pub grown-cases : Changed before after k q true → (l r : ℕ) → takes after l r ≡ true → ((l ≡ k) × (r ≡ q)) ⊎ (takes before l r ≡ true)
  grown-cases c l r e = ⊎_elim (λ x. inl x) (λ n. inr (sym (c.elsewhere l r n) ∙ e)) (same_or_not l r k q)

  pub shrunk : Changed before after k q false → Within after before
  shrunk c l r e =
      ⊎_elim (λ x. absurd (true≢false (sym e ∙ at_pair after l r k q false x c.here))) (λ n. sym (c.elsewhere l r n) ∙ e) (same_or_not l r k q)

  pub shrunk-cases : Changed before after k q false → (l r : ℕ) → takes before l r ≡ true → ((l ≡ k) × (r ≡ q)) ⊎ (takes after l r ≡ true)
  shrunk-cases c l r e = ⊎_elim (λ x. inl x) (λ n. inr (c.elsewhere l r n ∙ e)) (same_or_not l r k q)

-- ---- splitting, whatever the tables
module _ (low high : List ℕ) (p : ℕ) (l : p < 512) (u : undecided low high p ≡ true) where
  pub take_less : (low₂ high₂ : List ℕ) → high₂ ≡ high → Changed low low₂ (p / 64) (p % 64) true → open_pairs low₂ high₂ < open_pairs low high
  unfolding open_pairs
  take_less low₂ high₂ e c =
      subst (λ (z : List ℕ). counted (undecided low₂ z) 512 < counted (undecided low high) 512) (sym e)
      (counted-less _ _ 512 p l decided u more)
    where
      decided : undecided low₂ high p ≡ false
      decided = go (undecided low₂ high p) refl
        where
          go : (b : Bool) → undecided low₂ high p ≡ b → undecided low₂ high p ≡ false
          go true x = absurd (true≢false (sym c.here ∙ open-low low₂ high p x))
          go false x = x

      more : (q : ℕ) → q < 512 → undecided low₂ high q ≡ true → undecided low high q ≡ true
      more q m x = open-intro low high q (open-high low₂ high q x) (go (takes low (q / 64) (q % 64)) refl)
        where
          go : (b : Bool) → takes low (q / 64) (q % 64) ≡ b → takes low (q / 64) (q % 64) ≡ false
          go true y = absurd (true≢false (sym (grown low low₂ _ _ c _ _ y) ∙ open-low low₂ high q x))
          go false y = y

  pub leave-less : (low₁ high₁ : List ℕ) → low₁ ≡ low → Changed high high₁ (p / 64) (p % 64) false → open_pairs low₁ high₁ < open_pairs low high
  unfolding open_pairs
  leave-less low₁ high₁ e c =
      subst (λ (z : List ℕ). counted (undecided z high₁) 512 < counted (undecided low high) 512) (sym e)
      (counted-less _ _ 512 p l decided u more)
    where
      decided : undecided low high₁ p ≡ false
      decided = go (undecided low high₁ p) refl
        where
          go : (b : Bool) → undecided low high₁ p ≡ b → undecided low high₁ p ≡ false
          go true x = absurd (true≢false (sym (open-high low high₁ p x) ∙ c.here))
          go false x = x

      more : (q : ℕ) → q < 512 → undecided low high₁ q ≡ true → undecided low high q ≡ true
      more q m x = open-intro low high q (shrunk high high₁ _ _ c _ _ (open-high low high₁ q x)) (open-low low high₁ q x)

-- ---- tests of an interval
module _ (t : Tables) (h : table_fault t ≡ Done) where
  module _ (problem low high : List ℕ) (m : ℕ) (l : m < pairs_of t.questions) (x : AskedAt problem m) where
    -- an asked question with a variable on the right that fails at the low side
    pub low-shuts :
        has_variable (tree t.concepts (right_of t.questions m)) ≡ true → (HoldsAt t (take t.variables low) m → ⊥) → NoSolution t problem low high
    low-shuts e n other a b s = n (antitone t (well_formed t h) _ other b.above _ _ (left-free t h m l e) (s.solves m l x))

    -- another one that fails at the high side
    pub high-shuts :
        has_variable (tree t.concepts (right_of t.questions m)) ≡ false → (HoldsAt t (take t.variables high) m → ⊥) → NoSolution t problem low high
    high-shuts e n other a b s = n (monotone t (well_formed t h) other _ b.below _ _ e (s.solves m l x))

  module _ (low high : List ℕ) where
    module _ (i : IntervalOf t low high) where
      pub low_fits : t.variables ≤ length low
      low_fits = omega (arith, i.low-long, (well_formed t h).few-variables)

      pub low-accepted : assignment_fault t (take t.variables low) ≡ Done
      low-accepted = within-accepted t _ _ i.accepted (length-take-le _ low low_fits) (front-within t.variables low high i.ordered)

      -- nothing is undecided: what shuts the low side shuts the interval
      pub decided-shut :
          (problem low₁ high₁ : List ℕ) → Refuted t problem low low low₁ high₁ → ((p : ℕ) → p < 512 → undecided low high p ≡ false) → NoSolution t problem low high
      decided-shut problem low₁ high₁ r d other a b s =
          r.none other a
          (record {
            above = λ k q e. let (l, x) = front-known t.variables low₁ k q e in b.above k q (front-takes t.variables low k q l (r.above k q x));
            below = back;
          })
          s
        where
          back : Within other (take t.variables high₁)
          back k q e =
              let (l, x) = front-known t.variables high k q (b.below k q e) in
              let (m, n) = accepted-bits t other a k q e in
              front-takes t.variables high₁ k q l (r.below k q (go (takes low k q) refl x (omega (arith, (well_formed t h).few-variables)) (omega (arith, (well_formed t h).few-atoms))))
            where
              go : (b : Bool) → takes low k q ≡ b → takes high k q ≡ true → k < 8 → q < 64 → takes low k q ≡ true
              go true f x a b = f
              go false f x a b =
                  let u : (k * 64 + q) / 64 ≡ k = omega arith in
                  let w : (k * 64 + q) % 64 ≡ q = omega arith in
                  absurd (true≢false (sym (open-intro low high (k * 64 + q) (at_pair high _ _ k q true (u, w) x) (at_pair low _ _ k q false (u, w) f)) ∙ d (k * 64 + q) (omega arith)))

      module _ (p : ℕ) (u : undecided low high p ≡ true) where
        module _ (low₂ high₂ : List ℕ) (e : high₂ ≡ high) (c : Changed low low₂ (p / 64) (p % 64) true) where
          pub take-keeps : IntervalOf t low₂ high₂
          take-keeps =
              subst (IntervalOf t low₂) (sym e)
              (record {
                low-long = c.long;
                high-long = i.high-long;
                accepted = i.accepted;
                ordered =
                    λ k q x. ⊎_elim (λ y. at_pair high k q _ _ true y (open-high low high p u)) (λ y. i.ordered k q y) (grown-cases low low₂ _ _ c k q x);
                idle = i.idle;
              })

          pub take_found : (problem choice : List ℕ) → SolutionIn t problem low₂ high₂ choice → SolutionIn t problem low high choice
          take_found problem choice s =
              record {
                long = s.long;
                between =
                    record {
                      above = λ k q x. s.between.above k q (grown low low₂ _ _ c k q x);
                      below = subst (Within choice) e s.between.below;
                    };
                meets = s.meets;
              }

        module _ (low₁ high₁ : List ℕ) (e : low₁ ≡ low) (c : Changed high high₁ (p / 64) (p % 64) false) where
          pub leave-keeps : IntervalOf t low₁ high₁
          leave-keeps =
              subst (λ (z : List ℕ). IntervalOf t z high₁) (sym e)
              (record {
                low-long = i.low-long;
                high-long = c.long;
                accepted =
                    within-accepted t _ _ i.accepted (length-take-le _ high₁ (omega (arith, c.long, (well_formed t h).few-variables)))
                    (front-within t.variables high₁ high (shrunk high high₁ _ _ c));
                ordered =
                    λ k q x.
                    ⊎_elim (λ y. absurd (true≢false (sym x ∙ at_pair low k q _ _ false y (open-low low high p u)))) (λ y. y)
                    (shrunk-cases high high₁ _ _ c k q (i.ordered k q x));
                idle = λ k q l x. i.idle k q l (shrunk high high₁ _ _ c k q x);
              })

          pub leave-found : (problem choice : List ℕ) → SolutionIn t problem low₁ high₁ choice → SolutionIn t problem low high choice
          leave-found problem choice s =
              record {
                long = s.long;
                between =
                    record {
                      above = subst (λ (z : List ℕ). Within z choice) e s.between.above;
                      below = λ k q x. shrunk high high₁ _ _ c k q (s.between.below k q x);
                    };
                meets = s.meets;
              }

pub decided-true : (P : Type 0) (b : Bool) → Decided P b → b ≡ true → P
decided-true P b x e = subst (Decided P) e x

pub decided-false : (P : Type 0) (b : Bool) → Decided P b → b ≡ false → P → ⊥
decided-false P b x e = subst (Decided P) e x

-- ---- answers
pub picked-at : (low high : List ℕ) (r : Option ℕ) (p : ℕ) → Picked low high r → r ≡ Some p → (p < 512) × (undecided low high p ≡ true)
picked-at low high r p x e = subst (Picked low high) e x

pub picked_none : (low high : List ℕ) (r : Option ℕ) → Picked low high r → r ≡ None → (p : ℕ) → p < 512 → undecided low high p ≡ false
picked_none low high r x e = subst (Picked low high) e x
