use Rattle.matching.proofs.SearchLaws.Solve.{counts-long, clamp-solution, clamp-splits, clamp-refutes}
use Rattle.matching.proofs.search.solve.step_by_clamp.Goals as goal

pub clamp-inner-requires : goal.clamp-inner-requires
clamp-inner-requires c = (counts-long c.args.problem.now c.requires.lent.shaped.numbers.long, c.requires.full_len.1, c.requires.full_len.2)

pub returns-in_default : goal.returns-in_default
returns-in_default c =
    record {
      room = c.step_by_hint-step.ensures.room;
      stepped = rw c.in_default.is
          (clamp-splits _ _ _ _ _ _ _ _ c.clamp-inner.ensures _ c.in_default.ensures.stepped.0 c.in_default.ensures.stepped.1);
    }

pub returns-in_default-answer : goal.returns-in_default-answer
returns-in_default-answer c =
    let s = rw c.in_default-answer.is at c.in-Answered.ensures.stepped in
    record {
      room = c.step_by_hint-step.ensures.room;
      stepped = rw c.in_default-answer.is
          (s.0, clamp-solution _ _ _ _ _ _ _ _ c.clamp-inner.ensures _ s.1);
    }

pub returns : goal.returns
returns c =
    let s = rw c.in-Nogood.is at c.in-Answered.ensures.stepped in
    record {
      room = c.step_by_hint-step.ensures.room;
      stepped = (
        (c.unclamp.ensures.low-long, c.unclamp.ensures.high-long),
        clamp-refutes _ _ _ _ _ _ _ _ c.clamp-inner.ensures _ _ s.1 _ _ c.unclamp.ensures,
      );
    }
