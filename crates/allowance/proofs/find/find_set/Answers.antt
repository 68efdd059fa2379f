use Rattle.subsumption.proofs.Accepted.{well_formed}
use Rattle.allowance.proofs.AnswerLaws.{buffer-refuses, counted-filled, counted-spent, counted_none}
use Rattle.allowance.proofs.find.find_set.Goals as goal

pub returns-then-out-wanted : goal.returns-then-out-wanted
returns-then-out-wanted c = buffer-refuses _ _ _ c.args.out.now _ c.refused.ensures c.requires.accepted.passed c.requires.largest_value c.if-out-wanted.true

pub write_choice-requires : goal.write_choice-requires
write_choice-requires c = record { count_bound = (well_formed _ c.requires.accepted.passed).few-variables; count_in_bounds = c.if-out-wanted.false }

pub returns-in-Found : goal.returns-in-Found
returns-in-Found c =
    counted-filled _ _ _ _ c.requires.accepted.passed c.requires.largest_value c.if-out-wanted.false _ _ _
    (rw c.in-Found.is at c.walk_known-walked.ensures) c.write_choice.ensures

pub returns-in-Spent : goal.returns-in-Spent
returns-in-Spent c =
    counted-spent _ _ _ c.args.out.now c.requires.accepted.passed c.requires.largest_value c.if-out-wanted.false _
    (rw c.in-Spent.is at c.walk_known-walked.ensures)

pub returns-in-Absent : goal.returns-in-Absent
returns-in-Absent c =
    counted_none _ _ _ c.args.out.now c.requires.accepted.passed c.requires.largest_value c.if-out-wanted.false _
    (rw c.in-Absent.is at c.walk_known-walked.ensures)
