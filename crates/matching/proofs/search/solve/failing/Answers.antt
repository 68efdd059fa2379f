use native.Mathlib.Omega.{arith}
use Rattle.matching.proofs.SearchLaws.Solve.{failing-first, failing-second}
use Rattle.matching.proofs.search.solve.failing.Goals as goal

pub failing_of-first-requires : goal.failing_of-first-requires
failing_of-first-requires c = record { shaped = c.requires.shaped; scratch_len = c.requires.scratch_len }

pub bounds-problem-897 : goal.bounds-problem-897
bounds-problem-897 c = omega (arith, c.requires.shaped.numbers.long)

pub overflow_cast-problem : goal.overflow_cast-problem
overflow_cast-problem c = omega (arith, c.requires.shaped.numbers.few)

pub returns-then-first-problem : goal.returns-then-first-problem
returns-then-first-problem c = failing-first _ _ _ _ c.failing_of-first.ensures c.if-first-problem.true

pub failing_of-requires : goal.failing_of-requires
failing_of-requires c = record { shaped = c.requires.shaped; scratch_len = omega (arith, c.requires.scratch_len) }

pub returns : goal.returns
returns c = failing-second _ _ _ _ _ c.failing_of-first.ensures (omega arith) c.failing_of.ensures
