use native.Mathlib.Omega.{arith}
use Rattle.subsumption.proofs.MarkLaws.{ones-column}
use Rattle.subsumption.proofs.counting.ones_in.Goals as goal

pub returns : goal.returns
returns c = record { value = ones-column _ _ (λ p. omega (arith, c.fits-columns p)) _ _ _ _ _ _ c.requires.count_bound c.ones_below-first.ensures.value c.saturating_sub.ensures c.ones_below-second.ensures.value c.saturating_sub-2.ensures c.ones_below-third.ensures.value; upper_bound = omega (arith, c.ones_below-first.ensures.upper_bound, c.ones_below-second.ensures.upper_bound, c.ones_below-third.ensures.upper_bound) }
