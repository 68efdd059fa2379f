use native.Mathlib.Omega.{arith}
use Rattle.matching.proofs.SearchLaws.Making.Numbers.{copied_none, copied_more, copied-done}
use Rattle.matching.proofs.search.problem.copy_at.Goals as goal

pub loop-p-init : goal.loop-p-init
loop-p-init c = copied_none _ _ _

pub bounds-to-at : goal.bounds-to-at
bounds-to-at c = omega (arith, c.loop-p.invariant.long)

pub loop-p-preserved : goal.loop-p-preserved
loop-p-preserved c = copied_more _ _ _ _ _ c.requires (omega arith) c.loop-p.invariant

pub shape_of-to : goal.shape_of-to
shape_of-to c = c.loop-p.invariant.long

pub returns : goal.returns
returns c = copied-done _ _ _ _ _ (omega arith) c.loop-p.invariant
