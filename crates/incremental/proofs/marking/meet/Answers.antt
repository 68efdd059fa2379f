use native.Mathlib.Omega.{arith}
use Rattle.incremental.proofs.MarkingLaws.{meet-adds}
use mathlib.Core.Path.{refl}
use mathlib.Core.Logic.{inr}
use Rattle.incremental.proofs.marking.meet.Goals as goal

pub take-requires : goal.take-requires
take-requires c = record { square = c.requires.square; base = (omega arith, inr refl); x_bound = omega arith }

pub returns : goal.returns
returns c = meet-adds _ _ _ (omega arith) (omega arith) c.requires.square c.take.ensures
