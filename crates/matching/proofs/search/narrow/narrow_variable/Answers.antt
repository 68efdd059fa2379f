use mathlib.Core.Path.{refl}
use native.Mathlib.Omega.{arith}
use Rattle.matching.proofs.FindLaws.{all-zeros}
use Rattle.matching.proofs.SearchLaws.Narrow.{narrowing_none, narrowing-keep, narrowing-less, narrowed-pair, still-taken}
use Rattle.matching.proofs.search.narrow.narrow_variable.Goals as goal

pub loop-q-init : goal.loop-q-init
loop-q-init c = (omega arith, narrowing_none _ _ _ _ _ c.requires.scratch_len.1 c.next_bit-q.ensures)

pub with_pair-alone-requires : goal.with_pair-alone-requires
with_pair-alone-requires c = record { set_len = refl; k_bound = (c.requires.m_bound.1, omega arith) }

pub question_holds-requires : goal.question_holds-requires
question_holds-requires c = record { shaped = c.requires.shaped; in_bounds = (omega arith, omega (arith, c.requires.shaped.numbers.few)) }

pub loop-q-smaller-then-question_holds : goal.loop-q-smaller-then-question_holds
loop-q-smaller-then-question_holds c = omega (arith, c.next_bit-q-in-loop-q.ensures.after)

pub loop-q-preserved-then-question_holds : goal.loop-q-preserved-then-question_holds
loop-q-preserved-then-question_holds c = (omega arith, narrowing-keep _ _ _ _ _ _ _ c.loop-q.invariant.1 c.next_bit-q-in-loop-q.ensures)

pub without_pair-fewer-requires : goal.without_pair-fewer-requires
without_pair-fewer-requires c = record { set_len = c.loop-q.invariant.1.long; k_bound = (c.requires.m_bound.1, omega arith); q_value = still-taken _ _ _ _ _ _ c.loop-q.invariant.1 (omega arith) }

pub loop-q-smaller : goal.loop-q-smaller
loop-q-smaller c = omega (arith, c.next_bit-q-in-loop-q.ensures.after)

pub loop-q-preserved : goal.loop-q-preserved
loop-q-preserved c = (omega arith, narrowing-less _ _ _ _ _ _ _ c.loop-q.invariant.1 c.next_bit-q-in-loop-q.ensures _ c.without_pair-fewer.ensures (narrowed-pair _ _ _ _ _ c.requires.m_bound.0 c.requires.asked_at.0 c.requires.asked_at.1 _ _ all-zeros c.with_pair-alone.ensures c.question_holds.result c.question_holds.ensures c.if-question_holds.false _ _ c.without_pair-fewer.ensures))

pub returns : goal.returns
returns c = record { result_len = c.loop-q.invariant.1.long; narrowed = c.loop-q.invariant.1.narrowed }
