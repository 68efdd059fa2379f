use native.Mathlib.Omega.{arith}
use Rattle.matching.proofs.SearchLaws.Needs.{wanting-none, wanting-more, wanting-over}
use Rattle.matching.proofs.search.needs.count_needs.Goals as goal

pub loop-c-init : goal.loop-c-init
loop-c-init c = wanting-none _ _ c.args.full c.args.interval.low c.args.interval.high _ _ (omega arith) c.requires.full_len.0 c.size_of-sum.ensures

pub returns-then-sum-most : goal.returns-then-sum-most
returns-then-sum-most c =
    let w = wanting-more _ _ c.args.full c.args.interval.low c.args.interval.high _ _ _ _ _ _ c.loop-c.invariant _ _ _ _ _ (omega arith)
    (omega arith) c.if-wanted-eq0.false c.need_at-wanted.ensures c.nogood_at-nogood.ensures.0 c.nogood_at-nogood.ensures.1
    c.with_below-more.ensures c.with_above-fewer.ensures in (
      (w.low-long, w.high-long),
      wanting-over _ _ c.args.full c.args.interval.low c.args.interval.high _ _ _ _ _ _ w (omega arith),
    )

pub loop-c-preserved : goal.loop-c-preserved
loop-c-preserved c = wanting-more _ _ c.args.full c.args.interval.low c.args.interval.high _ _ _ _ _ _ c.loop-c.invariant _ _ _ _ _ (omega arith) (omega arith) c.if-wanted-eq0.false c.need_at-wanted.ensures c.nogood_at-nogood.ensures.0 c.nogood_at-nogood.ensures.1 c.with_below-more.ensures c.with_above-fewer.ensures
