use native.Mathlib.Omega.{arith}
use Rattle.incremental.proofs.MarkingLaws.{marks}
use Rattle.incremental.proofs.marking.mark.Goals as goal

pub absorb-a-requires : goal.absorb-a-requires
absorb-a-requires c = omega (arith, c.requires.square.long)

pub absorb-b-requires : goal.absorb-b-requires
absorb-b-requires c = omega (arith, c.requires.square.long, c.absorb-a.ensures.long)

pub returns : goal.returns
returns c = marks _ _ _ _ _ _ _ _ c.requires.base (omega arith) (omega arith) c.requires.square c.absorb-a.ensures c.absorb-b.ensures
