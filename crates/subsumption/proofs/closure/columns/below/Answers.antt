use mathlib.Core.Path.{refl}
use Rattle.subsumption.specs.Atoms.{bit}
use Rattle.subsumption.specs.Inner.Columns.{has}
use Rattle.subsumption.proofs.closure.columns.below.Goals as goal

pub returns : goal.returns
unfolding has bit
returns c = refl
