use Rattle.matching.proofs.SearchLaws.Solve.{by-known}
use Rattle.matching.proofs.search.solve.step_by_hint.Goals as goal

pub returns-then-is_shut : goal.returns-then-is_shut
returns-then-is_shut c =
    record {
      room = c.requires.lent.room;
      stepped = (
        (c.in-Some.ensures.low-long, c.in-Some.ensures.high-long),
        by-known _ _ _ _ _ _ _ _ c.in-Some.ensures _ c.is_shut.ensures c.if-is_shut.true,
      );
    }
