use Rattle.matching.proofs.SearchLaws.Sets.{next-end, next-none, rest-low, next-found}
use native.Mathlib.Omega.{arith}
use Rattle.matching.proofs.search.sets.next_bit.Goals as goal

pub returns-then-from-eq64 : goal.returns-then-from-eq64
returns-then-from-eq64 c = next-end _ _ (omega arith)

pub returns-then-rest-eq0 : goal.returns-then-rest-eq0
returns-then-rest-eq0 c = next-none _ _ (omega arith) (omega arith)

pub overflow_cast-result : goal.overflow_cast-result
overflow_cast-result c = omega (arith, rest-low c.args.word c.args.from (omega arith) c.if-rest-eq0.false)

pub overflow_add-result : goal.overflow_add-result
overflow_add-result c = omega (arith, rest-low c.args.word c.args.from (omega arith) c.if-rest-eq0.false)

pub returns : goal.returns
returns c = next-found _ _ (omega arith) c.if-rest-eq0.false
