-- Largest counts: what testing them, clamping an interval by them, and needs tell of the solutions in an interval.
use Rattle.subsumption.specs.Refusal.{Done}
use Prim.Native.Nat.{ℕ, ◌/◌, ◌%◌, ◌<◌, ◌≤◌}
use mathlib.Core.Path.{◌≡◌, sym, ap, ◌∙◌, subst}
use mathlib.Core.List.{List}
use mathlib.Core.Bool.{true, true≢false}
use mathlib.Core.Logic.{⊎_elim}
use native.Mathlib.Omega.{arith}
use lib.ListN.{length, get_or, take, drop, length-take, get_or-eq_default}
use lib.Seq.{get_or-take, get_or-drop, length-take-le}
use Rattle.subsumption.specs.Tables.{Tables}
use Rattle.subsumption.specs.Atoms.{bit}
use Rattle.subsumption.specs.Check.{table_fault}
use Rattle.subsumption.proofs.Bools.{le-or-lt}
use Rattle.subsumption.proofs.Bits.{bit-of-zero}
use Rattle.subsumption.proofs.Accepted.{well_formed}
use Rattle.settings.specs.Settings.{size}
use Rattle.settings.specs.Inner.Counts.{Over, Counted, Reached, Clamped, KeptAt, NamedAt, Unclamped}
use Rattle.settings.proofs.SizeLaws.{size-le, size-zero, size_same}
use Rattle.matching.specs.Solving.{takes}
use Rattle.matching.specs.Inner.Search.{Within, Meets, NoSolution}
use Rattle.matching.specs.Inner.Search.Problem.{most_at}
use Rattle.matching.specs.Inner.Search.Interval.{IntervalOf, undecided}
use Rattle.matching.specs.Inner.Search.Solve.{Refuted}
use Rattle.matching.proofs.SearchLaws.Fronts.{front-known, front-takes, front-within, accepted-long, accepted-bits, within-accepted}
use Rattle.matching.proofs.SearchLaws.Pairs.{past-none}
use Rattle.matching.proofs.SearchLaws.Interval.{open-high, open-low, open-intro}

-- a number's bits, read through an equation
same_bit : (x y q : ℕ) → x ≡ y → bit x q ≡ true → bit y q ≡ true
same_bit x y q e h = subst (λ (z : ℕ). bit z q ≡ true) e h

-- a pair of eight numbers is one of the eight
low-variable : (a : List ℕ) (k q : ℕ) → length a ≡ 8 → takes a k q ≡ true → k < 8
low-variable a k q e h = ⊎_elim (λ (l : 8 ≤ k). absurd (bit-of-zero q (same_bit _ _ q (past-none a k q e l) h))) (λ l. l) (le-or-lt 8 k)

-- the counts that are lent are the problem's
pub counts_same : (problem most : List ℕ) → most ≡ take 8 (drop 931 problem) → (k : ℕ) → k < 8 → get_or most k 0 ≡ most_at problem k
counts_same problem most e k l = ap (λ (z : List ℕ). get_or z k 0) e ∙ get_or-take 8 (drop 931 problem) k 0 l ∙ get_or-drop 931 problem k 0

-- ---- counts that are kept, and one that is not
module _ (problem most low : List ℕ) (same : (k : ℕ) → k < 8 → get_or most k 0 ≡ most_at problem k) where
  pub few-front : (v : ℕ) → v ≤ 8 → Counted most low true → (k : ℕ) → size (get_or (take v low) k 0) ≤ most_at problem k
  few-front v h f k =
      ⊎_elim
      (λ (l : v ≤ k). omega (arith, ap size (get_or-eq_default (take v low) 0 {n = k} (omega (arith, length-take v low))), size-zero))
      (λ l. omega (arith, ap size (get_or-take v low k 0 l), f k (omega arith), same k (omega arith)))
      (le-or-lt v k)

  pub over-refutes : (t : Tables) (full : List ℕ) → IntervalOf t low full → Over most low → Refuted t problem low low low full
  over-refutes t full i o =
      record { low-long = i.low-long; high-long = i.high-long; above = λ k q e. e; below = i.ordered; none = none }
    where
      none : NoSolution t problem low full
      none other a b m =
          omega (arith, o.over, same o.variable o.low, m.few o.variable, size-le (get_or low o.variable 0) (get_or other o.variable 0) more)
        where
          more : (q : ℕ) → takes low o.variable q ≡ true → takes other o.variable q ≡ true
          more q e =
              ⊎_elim (λ (l : t.variables ≤ o.variable). absurd (i.idle o.variable q l (i.ordered o.variable q e)))
              (λ l. b.above o.variable q (front-takes t.variables low o.variable q l e)) (le-or-lt t.variables o.variable)

-- ---- a clamped interval
module _ (most low high inner : List ℕ) (c : Clamped most low high inner) where
  -- a pair that is open there is none that the low side takes
  pub clamped-open : (p : ℕ) → undecided low inner p ≡ true → undecided low high p ≡ true
  clamped-open p u =
      open-intro low high p
      (⊎_elim (λ (x : get_or inner (p / 64) 0 ≡ get_or high (p / 64) 0). same_bit _ _ _ x (open-high low inner p u))
      (λ (x : (get_or inner (p / 64) 0 ≡ get_or low (p / 64) 0) × Reached most low (p / 64)).
      absurd (true≢false (sym (same_bit _ _ _ x.0 (open-high low inner p u)) ∙ open-low low inner p u)))
      (c.each (p / 64) (low-variable inner (p / 64) (p % 64) c.long (open-high low inner p u))))
      (open-low low inner p u)

module _ (most low high inner : List ℕ) (w : Within low high) (c : Clamped most low high inner) where
  clamped-less : Within inner high
  clamped-less k q e =
      ⊎_elim (λ (x : get_or inner k 0 ≡ get_or high k 0). same_bit _ _ q x e)
      (λ (x : (get_or inner k 0 ≡ get_or low k 0) × Reached most low k). w k q (same_bit _ _ q x.0 e)) (c.each k (low-variable inner k q c.long e))

module _ (t : Tables) (most low high inner : List ℕ) (i : IntervalOf t low high) (c : Clamped most low high inner) where
  pub clamped-inside : IntervalOf t low inner
  clamped-inside =
      record {
        low-long = i.low-long;
        high-long = c.long;
        accepted =
            within-accepted t _ _ i.accepted (length-take-le _ inner (omega (arith, c.long, i.high-long, length-take t.variables high, accepted-long t _ i.accepted)))
            (front-within t.variables inner high (clamped-less most low high inner i.ordered c));
        ordered =
            λ k q e.
            ⊎_elim (λ (x : get_or inner k 0 ≡ get_or high k 0). same_bit _ _ q (sym x) (i.ordered k q e))
            (λ (x : (get_or inner k 0 ≡ get_or low k 0) × Reached most low k). same_bit _ _ q (sym x.0) e) (c.each k (low-variable low k q i.low-long e));
        idle = λ k q l e. i.idle k q l (clamped-less most low high inner i.ordered c k q e);
      }

  pub clamped-full : (full : List ℕ) → IntervalOf t high full → IntervalOf t inner full
  clamped-full full j =
      record {
        low-long = c.long;
        high-long = j.high-long;
        accepted = j.accepted;
        ordered = λ k q e. j.ordered k q (clamped-less most low high inner i.ordered c k q e);
        idle = j.idle;
      }

-- ---- the nogood of a clamped interval as one of the whole
module _ (t : Tables) (h : table_fault t ≡ Done) (problem most full low high inner below above : List ℕ) (same : (k : ℕ) → k < 8 → get_or most k 0 ≡ most_at problem k)
    (i : IntervalOf t low high) (j : IntervalOf t high full) (c : Clamped most low high inner) (r : Refuted t problem low inner below above) (low₁ high₁ : List ℕ)
    (u : Unclamped full low high inner below above low₁ high₁) where
  -- where the nogood is about the low side's choice, a solution takes no more
  no_more :
      (other : List ℕ) (k q : ℕ) → k < 8 → q < 64 → NamedAt full low high inner low₁ high₁ k → Meets t problem other
      → ((p : ℕ) → takes low k p ≡ true → takes other k p ≡ true) → takes other k q ≡ true → takes above k q ≡ true
  no_more other k q l l' n m more e =
      ⊎_elim
      (λ x. absurd (n.clamped x))
      (λ (x : (get_or inner k 0 ≡ get_or low k 0) × Reached most low k).
      r.below k q
      (same_bit _ _ q (sym x.0) (size_same (get_or low k 0) (get_or other k 0) more (omega (arith, x.1, m.few k, same k l)) q l' e)))
      (c.each k l)

  pub unclamped-refutes : Refuted t problem low high low₁ high₁
  unclamped-refutes = record { low-long = u.low-long; high-long = u.high-long; above = wider; below = higher; none = none }
    where
      wider : Within low₁ low
      wider k q e =
          ⊎_elim (λ (x : KeptAt high inner below above low₁ high₁ k). r.above k q (same_bit _ _ q x.low_same e))
          (λ (x : NamedAt full low high inner low₁ high₁ k). same_bit _ _ q x.low-named e) (u.each k (low-variable low₁ k q u.low-long e))

      higher : Within high high₁
      higher k q e =
          ⊎_elim (λ (x : KeptAt high inner below above low₁ high₁ k).
          same_bit _ _ q (sym x.high_same)
          (⊎_elim (λ (y : get_or inner k 0 ≡ get_or high k 0). r.below k q (same_bit _ _ q (sym y) e)) (λ f. f q e) x.around))
          (λ (x : NamedAt full low high inner low₁ high₁ k). same_bit _ _ q (sym x.high-full) (j.ordered k q e)) (u.each k (low-variable high k q i.high-long e))

      none : NoSolution t problem low₁ high₁
      none other a b m = r.none other a (record { above = over; below = under }) m
        where
          over : Within (take t.variables below) other
          over k q e =
              let (l, x) = front-known t.variables below k q e in
              b.above k q
              (front-takes t.variables low₁ k q l
              (⊎_elim (λ (y : KeptAt high inner below above low₁ high₁ k). same_bit _ _ q (sym y.low_same) x)
              (λ (y : NamedAt full low high inner low₁ high₁ k). same_bit _ _ q (sym y.low-named) (r.above k q x)) (u.each k (omega (arith, (well_formed t h).few-variables)))))

          under : Within other (take t.variables above)
          under k q e =
              let (l, x) = front-known t.variables high₁ k q (b.below k q e) in
              let l' : q < 64 = omega (arith, (well_formed t h).few-atoms, (accepted-bits t other a k q e).1) in
              front-takes t.variables above k q l
              (⊎_elim (λ (y : KeptAt high inner below above low₁ high₁ k). same_bit _ _ q y.high_same x)
              (λ (y : NamedAt full low high inner low₁ high₁ k).
              no_more other k q (omega (arith, (well_formed t h).few-variables)) l' y m
              (λ p z. b.above k p (front-takes t.variables low₁ k p l (same_bit _ _ p (sym y.low-named) z))) e)
              (u.each k (omega (arith, (well_formed t h).few-variables))))
