use Rattle.matching.proofs.SearchLaws.Solve.{recalled}
use Rattle.matching.proofs.search.solve.look_up.Goals as goal

pub returns-then-place-store : goal.returns-then-place-store
returns-then-place-store c = recalled _ _ _ _ c.requires c.if-place-store.true c.nogood_at.ensures.0 c.nogood_at.ensures.1
