use native.Mathlib.Omega.{arith}
use Rattle.matching.proofs.FindLaws.{ones-all, ones-room, ones-some}
use Rattle.matching.proofs.search.interval.ones.Goals as goal

pub returns-then-count-eq-ATOMS : goal.returns-then-count-eq-ATOMS
returns-then-count-eq-ATOMS c = ones-all _ c.if-count-eq-ATOMS.true

pub overflow_sub-result : goal.overflow_sub-result
overflow_sub-result c = ones-room _ (omega arith)

pub returns : goal.returns
returns c = ones-some _ (omega arith)
