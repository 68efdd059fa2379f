use Rattle.matching.proofs.SearchLaws.Making.Filling.{closer-held, closer-top, closer-and}
use Rattle.matching.proofs.search.problem.is_closer.Goals as goal

pub returns-then-problem-e-eq1 : goal.returns-then-problem-e-eq1
returns-then-problem-e-eq1 c = closer-held _ _ c.if-problem-e-eq1.true

pub returns-then-problem-e-eq0 : goal.returns-then-problem-e-eq0
returns-then-problem-e-eq0 c = closer-top _ _ c.if-problem-e-eq1.false c.if-problem-e-eq0.true

pub returns : goal.returns
returns c = closer-and _ _ c.if-problem-e-eq1.false c.if-problem-e-eq0.false
