use Rattle.subsumption.proofs.Choices.{common-none, common-skip, common-more, common-more-first}
use Rattle.incremental.proofs.settling.common.Goals as goal

pub loop-q-init : goal.loop-q-init
loop-q-init c = (common-none _ _ _ _, common-none _ _ _ _, common-none _ _ _ _)

pub loop-q-preserved-then-picked-eq0 : goal.loop-q-preserved-then-picked-eq0
loop-q-preserved-then-picked-eq0 c = (
  common-skip _ _ _ _ _ _ c.loop-q.invariant.0 c.if-picked-eq0.true,
  common-skip _ _ _ _ _ _ c.loop-q.invariant.1 c.if-picked-eq0.true,
  common-skip _ _ _ _ _ _ c.loop-q.invariant.2 c.if-picked-eq0.true,
)

pub loop-q-preserved : goal.loop-q-preserved
loop-q-preserved c = (
  common-more-first _ _ _ _ _ c.loop-q.invariant.0 c.if-picked-eq0.false,
  common-more _ _ _ _ _ _ c.loop-q.invariant.1 c.if-picked-eq0.false,
  common-more _ _ _ _ _ _ c.loop-q.invariant.2 c.if-picked-eq0.false,
)
