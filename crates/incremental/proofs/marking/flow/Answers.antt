use native.Mathlib.Omega.{arith}
use Rattle.incremental.proofs.MarkingLaws.{flow-adds}
use mathlib.Core.Path.{refl}
use mathlib.Core.Logic.{inl}
use Rattle.incremental.proofs.marking.flow.Goals as goal

pub take-requires : goal.take-requires
take-requires c = record { square = c.requires.square; base = (omega arith, inl refl); x_bound = omega arith }

pub returns : goal.returns
returns c = flow-adds _ _ c.take.ensures
