-- Carrying a failed question on: mixes of the choice and the target, and why the question still fails.
use Prim.Native.Nat.{ℕ}
use mathlib.Core.Path.{◌≡◌, subst}
use mathlib.Core.List.{List}
use mathlib.Core.Bool.{Bool, false}
use native.Mathlib.Omega.{arith}
use lib.ListN.{take}
use lib.Seq.{length-take-le}
use Rattle.subsumption.specs.Refusal.{Done}
use Rattle.subsumption.specs.Tables.{Tables}
use Rattle.subsumption.specs.Check.{table_fault, assignment_fault}
use Rattle.subsumption.proofs.Accepted.{well_formed}
use Rattle.matching.specs.Inner.Search.{Decided, HoldsAt, Within}
use Rattle.matching.specs.Inner.Search.Interval.{IntervalOf}
use Rattle.matching.specs.Inner.Search.Patterns.{Tested}
use Rattle.matching.specs.Inner.Search.Widen.{Mixed, StillFails}
use Rattle.matching.proofs.SearchLaws.Fronts.{front-within, within-accepted}
use Rattle.matching.proofs.SearchLaws.Pairs.{mixed-within}

-- ---- mixes of two assignments inside a third
module _ (t : Tables) (h : table_fault t ≡ Done) (full choice target mix : List ℕ)
    (i : IntervalOf t choice full) (j : IntervalOf t target full) (m : Mixed choice target mix) where
  mix-ordered : Within mix full
  mix-ordered = mixed-within choice target mix full m i.ordered j.ordered

  pub mix-interval : IntervalOf t mix full
  mix-interval = record { low-long = m.long; high-long = i.high-long; accepted = i.accepted; ordered = mix-ordered; idle = i.idle }

  pub mix-accepted : assignment_fault t (take t.variables mix) ≡ Done
  mix-accepted =
      within-accepted t _ _ i.accepted (length-take-le _ mix (omega (arith, m.long, (well_formed t h).few-variables)))
      (front-within t.variables mix full mix-ordered)

-- ---- the question still fails
module _ (sets problem : List ℕ) (m : ℕ) (choice target : List ℕ) where
  pub still-none : StillFails sets problem m choice target choice
  still-none t k l full i j n = n

  module _ (mix : List ℕ) (x : Mixed choice target mix) (b : Bool) (d : Tested sets problem m mix b) (e : b ≡ false) where
    -- a mix under which a test fails
    pub still-tested : StillFails sets problem m choice target mix
    still-tested t k l full i j n =
        subst (Decided (HoldsAt t (take t.variables mix) m)) e (d t k (mix-accepted t k.passed full choice target mix i j x) l)

    -- what is carried on from there
    pub still-through : (failing : List ℕ) → StillFails sets problem m mix target failing → StillFails sets problem m choice target failing
    still-through failing s t k l full i j n =
        s t k l full (mix-interval t k.passed full choice target mix i j x) j (still-tested t k l full i j n)
