use native.Mathlib.Omega.{arith}
use Rattle.matching.proofs.SearchLaws.Making.Cones.{cones-more}
use Rattle.matching.proofs.search.problem.note_cones.Goals as goal

pub loop-m-preserved : goal.loop-m-preserved
loop-m-preserved c = cones-more _ _ _ _ _ _ c.requires.readable (omega arith) c.loop-m.invariant c.note_cone.ensures
