use native.Mathlib.Omega.{arith}
use Rattle.matching.proofs.SearchLaws.Pairs.{mixed-same, mixed-again}
use Rattle.matching.proofs.SearchLaws.Widen.{still-none, still-tested}
use Rattle.matching.proofs.search.widen.widen_runs.Goals as goal

pub loop-from-init : goal.loop-from-init
loop-from-init c = (omega arith, mixed-same _ _ c.requires.choice_len.0, still-none _ _ _ _ _, omega arith, omega arith)

pub overflow_sub-end-in-loop-from : goal.overflow_sub-end-in-loop-from
overflow_sub-end-in-loop-from c = omega (arith, c.start_of-start.ensures)

pub with_run-next-requires : goal.with_run-next-requires
with_run-next-requires c = record { from_bound = (omega (arith, c.start_of-start.ensures), omega (arith, c.start_of-start.ensures)); choice_len = (c.loop-from.invariant.1.long, c.requires.choice_len.1) }

pub loop-from-smaller-then-is_same : goal.loop-from-smaller-then-is_same
loop-from-smaller-then-is_same c = omega (arith, c.twice-size.ensures)

pub loop-from-preserved-then-is_same : goal.loop-from-preserved-then-is_same
loop-from-preserved-then-is_same c = (c.loop-from.invariant.0, c.loop-from.invariant.1, c.loop-from.invariant.2, c.twice-size.ensures.0, c.twice-size.ensures.1)

pub question_holds-requires : goal.question_holds-requires
question_holds-requires c = record { shaped = c.requires.shaped; in_bounds = (omega arith, c.requires.scratch_len.1) }

pub loop-from-smaller-then-not-question_holds : goal.loop-from-smaller-then-not-question_holds
loop-from-smaller-then-not-question_holds c = omega (arith, c.twice-size-then-not-question_holds.ensures)

pub loop-from-preserved-then-not-question_holds : goal.loop-from-preserved-then-not-question_holds
loop-from-preserved-then-not-question_holds c = (omega arith, mixed-again _ _ _ _ c.loop-from.invariant.1 c.with_run-next.ensures, still-tested _ _ _ _ _ _ (mixed-again _ _ _ _ c.loop-from.invariant.1 c.with_run-next.ensures) c.question_holds.result c.question_holds.ensures (c.if-not-question_holds.true), c.twice-size-then-not-question_holds.ensures.0, c.twice-size-then-not-question_holds.ensures.1)

pub loop-from-preserved-then-size-eq1 : goal.loop-from-preserved-then-size-eq1
loop-from-preserved-then-size-eq1 c = (omega arith, c.loop-from.invariant.1, c.loop-from.invariant.2, omega arith, omega arith)

pub loop-from-preserved : goal.loop-from-preserved
loop-from-preserved c = (omega arith, c.loop-from.invariant.1, c.loop-from.invariant.2, omega arith, omega arith)

pub returns : goal.returns
returns c = record { mixed = c.loop-from.invariant.1; still_fails = c.loop-from.invariant.2 }
