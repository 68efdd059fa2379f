use Rattle.matching.proofs.SearchLaws.Walks.{followed-first, followed-trans, closed-up, closing-less}
use native.Mathlib.Omega.{arith}
use Rattle.matching.proofs.search.patterns.close_up.Goals as goal

pub loop-more-init : goal.loop-more-init
loop-more-init c = followed-first _ _ _ _

pub returns-then-is_same : goal.returns-then-is_same
returns-then-is_same c = closed-up _ _ _ _ _ _ c.loop-more.invariant c.close_once-more.ensures (c.is_same.ensures.same c.if-is_same.true)

pub loop-more-smaller : goal.loop-more-smaller
loop-more-smaller c = closing-less _ _ (omega arith) (omega arith) (omega arith) c.close_once-more.ensures.grown c.is_same.ensures c.if-is_same.false

pub loop-more-preserved : goal.loop-more-preserved
loop-more-preserved c = followed-trans _ _ _ _ _ _ c.loop-more.invariant c.close_once-more.ensures.followed
