use native.Mathlib.Omega.{arith}
use Rattle.matching.proofs.SearchLaws.Making.Cones.{cone-start, cone-more}
use Rattle.matching.proofs.search.problem.note_cone.Goals as goal

pub loop-i-init : goal.loop-i-init
loop-i-init c = cone-start _ _ _ _ _ _ c.mark_held.ensures c.mark_held-2.ensures c.requires.readable c.requires.m_bound c.requires.by_index

pub loop-i-preserved-then-has : goal.loop-i-preserved-then-has
loop-i-preserved-then-has c = cone-more _ _ _ _ c.requires.readable c.requires.m_bound _ _ c.loop-i.invariant (omega arith) _ c.mark_inside.ensures
