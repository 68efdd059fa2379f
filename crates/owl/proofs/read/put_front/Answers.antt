use mathlib.Core.Path.{refl}
use Rattle.owl.specs.Read.{in_front}
use Rattle.owl.proofs.read.put_front.Goals as goal

pub returns : goal.returns
unfolding in_front
returns c = rw c.copy_from_slice.ensures.after refl
