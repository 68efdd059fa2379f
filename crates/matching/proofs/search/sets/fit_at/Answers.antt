use Rattle.matching.proofs.SearchLaws.Sets.{fit-right, fit-left}
use Rattle.matching.proofs.search.sets.fit_at.Goals as goal

pub returns-then-right : goal.returns-then-right
returns-then-right c = fit-right _ _ c.if-right.true

pub returns : goal.returns
returns c = fit-left _ _ c.if-right.false
