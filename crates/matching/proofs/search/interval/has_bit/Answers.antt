use mathlib.Core.Path.{refl}
use Rattle.subsumption.specs.Atoms.{bit}
use Rattle.matching.proofs.search.interval.has_bit.Goals as goal

pub returns : goal.returns
unfolding bit
returns c = refl
