use native.Mathlib.Omega.{arith}
use Rattle.matching.proofs.SearchLaws.Narrow.{narrowed-more}
use Rattle.matching.proofs.search.narrow.narrow.Goals as goal

pub loop-m-preserved : goal.loop-m-preserved
loop-m-preserved c = (omega arith, c.narrow_question-fewer.ensures.result_len, narrowed-more _ _ _ _ _ c.loop-m.invariant.1 c.loop-m.invariant.2 c.narrow_question-fewer.ensures.narrowed)
