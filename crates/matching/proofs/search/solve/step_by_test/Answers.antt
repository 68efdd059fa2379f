use Rattle.matching.proofs.SearchLaws.Solve.{by-solution, by-test, by-decided, by-none}
use Rattle.matching.proofs.search.solve.step_by_test.Goals as goal

pub returns-in_default : goal.returns-in_default
returns-in_default c =
    record {
      room = c.try_low-tried.ensures.room;
      stepped = rw c.in_default.is
          (c.in_default.ensures.long, by-solution _ _ _ _ _ _ _ _ c.in_default.ensures.searched);
    }

pub returns-then-is_within : goal.returns-then-is_within
returns-then-is_within c =
    record {
      room = c.try_low-tried.ensures.room;
      stepped = (
        c.in-Nogood.ensures.long,
        by-test _ _ _ _ _ _ _ _ _ c.in-Nogood.ensures.searched _ c.is_within.ensures c.if-is_within.true,
      );
    }

pub returns-in-Some : goal.returns-in-Some
returns-in-Some c =
    record { room = c.try_low-tried.ensures.room; stepped = (c.in-Some.ensures, by-none _ _ _ _ _ _ _ _ _ c.in-Nogood.ensures.searched) }

pub returns-in-None : goal.returns-in-None
returns-in-None c =
    record {
      room = c.try_low-tried.ensures.room;
      stepped = (
        (c.requires.full_len.1, c.requires.full_len.2),
        by-decided _ _ _ _ _ _ _ _ _ c.in-Nogood.ensures.searched c.in-None.ensures,
      );
    }
