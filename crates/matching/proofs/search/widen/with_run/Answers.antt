use native.Mathlib.Omega.{arith}
use Rattle.matching.proofs.SearchLaws.Pairs.{mixed-more}
use Rattle.matching.proofs.search.widen.with_run.Goals as goal

pub loop-k-preserved : goal.loop-k-preserved
loop-k-preserved c = mixed-more _ _ _ _ _ _ (omega arith) c.loop-k.invariant
