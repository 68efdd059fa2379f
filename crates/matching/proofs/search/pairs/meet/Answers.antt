use native.Mathlib.Omega.{arith}
use Rattle.matching.proofs.SearchLaws.Pairs.{met_all}
use Rattle.matching.proofs.search.pairs.meet.Goals as goal

pub returns : goal.returns
returns c = met_all _ _ _ _ c.requires.0 c.requires.1 (omega arith) c.loop-k.invariant
