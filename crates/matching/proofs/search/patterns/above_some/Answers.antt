use Rattle.matching.proofs.SearchLaws.Walks.{above-first, above_more, above-done}
use native.Mathlib.Omega.{arith}
use Rattle.matching.proofs.search.patterns.above_some.Goals as goal

pub loop-q-init : goal.loop-q-init
loop-q-init c = above-first _ _ _ _ c.next_bit-q.ensures

pub overflow_cast-atom : goal.overflow_cast-atom
overflow_cast-atom c = omega (arith, c.requires.numbers.atoms-low c.loop-q.q (omega arith))

pub overflow_mul-atom : goal.overflow_mul-atom
overflow_mul-atom c = omega (arith, c.requires.numbers.atoms-low c.loop-q.q (omega arith))

pub words_at-requires : goal.words_at-requires
words_at-requires c = omega (arith, c.requires.numbers.atoms-low c.loop-q.q (omega arith))

pub loop-q-smaller : goal.loop-q-smaller
loop-q-smaller c = omega (arith, c.next_bit-q-in-loop-q.ensures.after)

pub loop-q-preserved : goal.loop-q-preserved
loop-q-preserved c = above_more _ _ _ _ _ _ _ _ (omega arith) c.loop-q.invariant c.words_at.ensures c.join-sum.ensures c.next_bit-q-in-loop-q.ensures

pub returns : goal.returns
returns c = above-done _ _ _ _ _ (omega arith) c.loop-q.invariant
