-- What counting needs promises (src/search/needs.rt).
use Rattle.std.specs.Prelude.{ℕ, ◌≡◌, List, true, false, ◌⊎◌, length, Option, Some, None}
use Rattle.subsumption.specs.Tables.{Tables, or, both}
use Rattle.subsumption.specs.Atoms.{bit}
use Rattle.matching.specs.Solving.{takes}
use Rattle.matching.specs.declared.search.interval.Interval.{Interval}
use Rattle.matching.specs.Inner.Search.{Within}
use Rattle.matching.specs.Inner.Search.Interval.{IntervalOf}
use Rattle.matching.specs.Inner.Search.Nogoods.{low_at, high_at, Nogoods}
use Rattle.matching.specs.Inner.Search.Solve.{Refuted}

-- The nogood at place c is around the low side and leaves out of the high one no more than these pairs of variable k, none of them
-- met before.
pub record Need (store : List ℕ) (c : ℕ) (high low : List ℕ) (k met wanted : ℕ) : Type 0 where
  pub above : Within (low_at store c) low
  pub wants : (l q : ℕ) → takes high l q ≡ true → (takes (high_at store c) l q ≡ true) ⊎ ((l ≡ k) × (bit wanted q ≡ true))
  pub fresh : (q : ℕ) → bit wanted q ≡ true → bit met q ≡ false

abbrev pub NeedAt : List ℕ → ℕ → List ℕ → List ℕ → ℕ → ℕ → ℕ → Type 0
NeedAt store c high low k met wanted = (wanted ≡ 0) ⊎ Need store c high low k met wanted

-- what is allowed, without what the one side and the other both leave out
pub record Kept (allowed above high fewer : List ℕ) : Type 0 where
  pub long : length fewer ≡ 8
  pub bits : (k q : ℕ) → takes fewer k q ≡ both (takes allowed k q) (or (takes above k q) (takes high k q))

-- Where more is wanted than the largest count, the interval around holds no solution.
abbrev pub Overdrawn : List ℕ → List ℕ → List ℕ → List ℕ → List ℕ → List ℕ → List ℕ → Type 0
Overdrawn problem store full low high low₁ high₁ =
    (t : Tables) → IntervalOf t low high → IntervalOf t high full → Nogoods t problem store → Refuted t problem low high low₁ high₁

abbrev pub WantedOver : List ℕ → List ℕ → List ℕ → List ℕ → List ℕ → Option Interval → Type 0
WantedOver problem store full low high (Some n) =
    ((length n.low ≡ 8) × (length n.high ≡ 8)) × Overdrawn problem store full low high n.low n.high
WantedOver problem store full low high None = Unit {0}
