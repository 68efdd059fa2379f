use native.Mathlib.Omega.{arith}
use mathlib.Core.Path.{◌∙◌, ap, subst}
use lib.ListN.{length}
use Rattle.matching.specs.Inner.Search.Interval.{open_pairs}
use Rattle.matching.proofs.SearchLaws.Interval.{open-high, take_less, leave-less}
use Rattle.matching.proofs.SearchLaws.Solve.{with-solution, split-with, without-solution, split-without, split-both, split-kept}
use Prim.Native.Nat.{ℕ, ◌<◌}
use Rattle.matching.proofs.search.solve.+some_solution.Goals as goal

pub some_solution-with-requires : goal.some_solution-with-requires
some_solution-with-requires t c =
    let u = c.in-Splits.ensures.stepped.0 in (
      subst (λ (z : ℕ). open_pairs c.take-taken.result.low c.take-taken.result.high < z)
          c.decreases (take_less _ _ _ u.0 u.1 _ _ c.take-taken.ensures.high_value c.take-taken.ensures.changed),
      (
        record {
          shaped = c.requires.lent.shaped;
          room = c.next_step-step.ensures.room;
          scratch-long = omega (arith, c.requires.lent.scratch-long, c.scratch-1.given, c.scratch-2-1.given);
        },
        (c.requires.full_len.0, c.take-taken.ensures.changed.long, ap length c.take-taken.ensures.high_value ∙ c.requires.full_len.2),
      ),
    )

pub returns-in_default : goal.returns-in_default
returns-in_default t c =
    let u = c.in-Splits.ensures.stepped in record {
      long = c.some_solution-with.ensures.long;
      room = c.some_solution-with.ensures.room;
      searched = rw c.in_default.is (with-solution _ _ _ _ _ _ u.0.1 _ _ _ u.1 _ _ c.take-taken.ensures.high_value
          c.take-taken.ensures.changed _ c.in_default.ensures.searched);
    }

pub returns-then-not-has_bit : goal.returns-then-not-has_bit
returns-then-not-has_bit t c =
    let u = c.in-Splits.ensures.stepped in record {
      long = c.in-Nogood.ensures.long;
      room = c.some_solution-with.ensures.room;
      searched = split-with _ _ _ _ _ _ u.0.1 _ _ _ u.1 _ _ c.take-taken.ensures.high_value c.take-taken.ensures.changed _ _
          c.in-Nogood.ensures.searched _ c.has_bit.ensures c.if-not-has_bit.true;
    }

pub some_solution-without-requires : goal.some_solution-without-requires
some_solution-without-requires t c =
    let u = c.in-Splits.ensures.stepped.0 in (
      subst (λ (z : ℕ). open_pairs c.leave-left.result.low c.leave-left.result.high < z)
          c.decreases (leave-less _ _ _ u.0 u.1 _ _ c.leave-left.ensures.low_value c.leave-left.ensures.changed),
      (
        record {
          shaped = c.requires.lent.shaped;
          room = c.some_solution-with.ensures.room;
          scratch-long = omega (
            arith,
            c.requires.lent.scratch-long,
            c.scratch-1.given,
            c.scratch-2-1.given,
            c.scratch-3-1.given,
            c.scratch-4-1.given,
          );
        },
        (
          c.requires.full_len.0,
          ap length c.leave-left.ensures.low_value ∙ c.requires.full_len.1,
          c.leave-left.ensures.changed.long,
        ),
      ),
    )

pub returns-in_default-without : goal.returns-in_default-without
returns-in_default-without t c =
    let u = c.in-Splits.ensures.stepped in record {
      long = c.some_solution-without.ensures.long;
      room = c.some_solution-without.ensures.room;
      searched = rw c.in_default-without.is
          (without-solution _ _ _ _ _ _ u.0.1 _ _ _ u.1 _ _ c.take-taken.ensures.high_value c.take-taken.ensures.changed _ _
          c.in-Nogood.ensures.searched _ _ _ c.leave-left.ensures.low_value c.leave-left.ensures.changed _
          c.in_default-without.ensures.searched);
    }

pub returns-then-has_bit : goal.returns-then-has_bit
returns-then-has_bit t c =
    let u = c.in-Splits.ensures.stepped in record {
      long = c.in-Nogood-without.ensures.long;
      room = c.some_solution-without.ensures.room;
      searched = split-without _ _ _ _ _ _ u.0.1 _ _ _ u.1 _ _ c.take-taken.ensures.high_value c.take-taken.ensures.changed _ _
          c.in-Nogood.ensures.searched _ _ _ c.leave-left.ensures.low_value c.leave-left.ensures.changed _ _
          c.in-Nogood-without.ensures.searched _ c.has_bit-2.ensures c.if-has_bit.true;
    }

pub returns-then-split : goal.returns-then-split
returns-then-split t c =
    let u = c.in-Splits.ensures.stepped in record {
      long = (c.merge-both.ensures.joined.long, c.merge-both.ensures.met.long);
      room = c.some_solution-without.ensures.room;
      searched = split-both _ _ _ _ _ _ u.0.1 _ _ _ u.1 _ _ c.take-taken.ensures.high_value
          c.take-taken.ensures.changed _ _ c.in-Nogood.ensures.searched _ _ _ c.leave-left.ensures.low_value c.leave-left.ensures.changed _
          _ c.in-Nogood-without.ensures.searched _ _ c.merge-both.ensures;
    }

pub returns : goal.returns
returns t c =
    let u = c.in-Splits.ensures.stepped in record {
      long = (c.merge-both.ensures.joined.long, c.merge-both.ensures.met.long);
      room = c.add.ensures.room;
      searched = split-kept _ _ _ _ _ _ u.0.1 _ _ _ u.1 _ _ c.take-taken.ensures.high_value
          c.take-taken.ensures.changed _ _ c.in-Nogood.ensures.searched _ _ _ c.leave-left.ensures.low_value c.leave-left.ensures.changed _
          _ c.in-Nogood-without.ensures.searched _ _ c.merge-both.ensures _ c.add.ensures;
    }

pub leave-left-requires-clause-q_value : goal.leave-left-requires-clause-q_value
leave-left-requires-clause-q_value t c = open-high _ _ _ c.in-Splits.ensures.stepped.0.1
