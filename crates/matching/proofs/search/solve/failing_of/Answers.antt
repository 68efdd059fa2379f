use Rattle.matching.proofs.SearchLaws.Solve.{hold-skip, failing-here}
use Rattle.matching.proofs.search.solve.failing_of.Goals as goal

pub loop-m-preserved-then-problem-side : goal.loop-m-preserved-then-problem-side
loop-m-preserved-then-problem-side c = (hold-skip _ _ _ _ _ c.if-problem-side.true c.loop-m.invariant.0, c.loop-m.invariant.1)

pub returns-in-loop-m : goal.returns-in-loop-m
returns-in-loop-m c = failing-here _ _ _ _ _ _ c.question_holds.ensures c.if-question_holds.false c.loop-m-test.true c.if-problem-m-ne1.false c.if-problem-side.false c.loop-m.invariant.0
