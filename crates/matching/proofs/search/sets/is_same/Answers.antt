use Rattle.matching.proofs.SearchLaws.Sets.{first-differs, second-differs, third-compared}
use native.Mathlib.Omega.{arith}
use Rattle.matching.proofs.search.sets.is_same.Goals as goal

pub returns-then-a-b : goal.returns-then-a-b
returns-then-a-b c = first-differs _ _ c.if-a-b.true

pub returns-then-a-b-2 : goal.returns-then-a-b-2
returns-then-a-b-2 c = second-differs _ _ c.if-a-b-2.true

pub returns : goal.returns
returns c = third-compared _ _ (omega arith) (omega arith)
