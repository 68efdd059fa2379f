use Rattle.matching.proofs.SearchLaws.Solve.{by-wanted}
use Rattle.matching.proofs.search.solve.next_step.Goals as goal

pub returns-in-Some : goal.returns-in-Some
returns-in-Some c = record { room = c.requires.lent.room; stepped = (c.in-Some.ensures.0, by-wanted _ _ _ _ _ _ _ _ c.in-Some.ensures.1) }
