use native.Mathlib.Omega.{arith}
use Rattle.incremental.proofs.LinkLaws.{by-inner}
use Rattle.incremental.proofs.links.over.Goals as goal

pub bounds-square-at : goal.bounds-square-at
bounds-square-at c = omega (arith, c.requires.square.long)

pub bounds-square-at-2 : goal.bounds-square-at-2
bounds-square-at-2 c = omega (arith, c.requires.square.long)

pub bounds-square-at-3 : goal.bounds-square-at-3
bounds-square-at-3 c = omega (arith, c.requires.square.long)

pub returns : goal.returns
returns c = by-inner _ _ _ _ c.requires.square (omega arith) _ _ _ c.join-one.ensures c.join-two.ensures c.join.ensures
