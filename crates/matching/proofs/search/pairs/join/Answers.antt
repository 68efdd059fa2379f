use native.Mathlib.Omega.{arith}
use Rattle.matching.proofs.SearchLaws.Pairs.{joined-all}
use Rattle.matching.proofs.search.pairs.join.Goals as goal

pub returns : goal.returns
returns c = joined-all _ _ _ _ c.requires.0 c.requires.1 (omega arith) c.loop-k.invariant
