use Rattle.matching.proofs.SearchLaws.Sets.{line-right, line-left}
use Rattle.matching.proofs.search.patterns.line_at.Goals as goal

pub returns-then-right : goal.returns-then-right
returns-then-right c = line-right _ _ c.if-right.true

pub returns : goal.returns
returns c = line-left _ _ c.if-right.false
