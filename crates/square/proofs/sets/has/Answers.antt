use Rattle.square.specs.Inner.Square.{on_line}
use Rattle.subsumption.specs.Atoms.{bit}
use mathlib.Core.Path.{refl}
use Rattle.square.proofs.sets.has.Goals as goal

pub returns : goal.returns
unfolding on_line bit
returns c = refl
