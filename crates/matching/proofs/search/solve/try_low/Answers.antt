use mathlib.Core.Path.{ap}
use mathlib.Core.Bool.{not}
use native.Mathlib.Omega.{arith}
use Rattle.matching.proofs.SearchLaws.Solve.{counts-long, tried-over, tried-refuted, tried-solves}
use Rattle.matching.proofs.search.solve.try_low.Goals as goal

pub is_few-requires : goal.is_few-requires
is_few-requires c = (counts-long c.args.problem.now c.requires.lent.shaped.numbers.long, c.requires.full_len.1)

pub returns-then-not-is_few : goal.returns-then-not-is_few
returns-then-not-is_few c =
    record {
      long = (c.requires.full_len.1, c.requires.full_len.0);
      room = c.requires.lent.room;
      searched = tried-over _ _ _ _ _ c.is_few.result c.is_few.ensures (ap not c.if-not-is_few.true);
    }

pub returns-then-m-problem : goal.returns-then-m-problem
returns-then-m-problem c =
    record {
      long = c.refute-nogood.ensures.low_len;
      room = c.add.ensures.room;
      searched = tried-refuted _ _ _ _ _ _ c.failing-m.ensures _ _ _ c.if-m-problem.true c.refute-nogood.ensures.refuted_by c.add.ensures;
    }

pub returns : goal.returns
returns c =
    record {
      long = c.requires.full_len.1;
      room = c.requires.lent.room;
      searched = tried-solves _ _ _ _ _ _ c.failing-m.ensures c.is_few.result c.is_few.ensures (ap not c.if-not-is_few.false)
          (omega arith);
    }
