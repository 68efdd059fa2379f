use Rattle.matching.proofs.SearchLaws.Solve.{by-known, by-nothing, can-split}
use Rattle.matching.proofs.search.solve.step_by_choice.Goals as goal

pub returns-then-is_shut : goal.returns-then-is_shut
returns-then-is_shut c =
    record {
      room = c.requires.lent.room;
      stepped = (
        (c.in-Some-look_up.ensures.low-long, c.in-Some-look_up.ensures.high-long),
        by-known _ _ _ _ _ _ _ _ c.in-Some-look_up.ensures _ c.is_shut.ensures c.if-is_shut.true,
      );
    }

pub returns-then-can_split : goal.returns-then-can_split
returns-then-can_split c =
    record {
      room = c.requires.lent.room;
      stepped = (
        can-split _ _ _ c.can_split.result c.can_split.ensures c.if-can_split.true,
        by-nothing _ _ _ _ _ _,
      );
    }
