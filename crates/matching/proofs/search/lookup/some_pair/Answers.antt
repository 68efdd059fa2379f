use lib.Count.{leading_le}
use native.Mathlib.Omega.{arith}
use Rattle.matching.proofs.search.lookup.some_pair.Goals as goal

pub overflow_cast-after : goal.overflow_cast-after
overflow_cast-after c = omega (arith, leading_le 64 c.args.word)

pub overflow_sub-after : goal.overflow_sub-after
overflow_sub-after c = omega (arith, leading_le 64 c.args.word)
