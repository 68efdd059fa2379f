use native.Mathlib.Omega.{arith}
use Rattle.matching.proofs.SearchLaws.Narrow.{narrowed-more}
use Rattle.matching.proofs.search.narrow.narrow_question.Goals as goal

pub loop-k-preserved : goal.loop-k-preserved
loop-k-preserved c = (omega arith, c.narrow_variable-fewer.ensures.result_len, narrowed-more _ _ _ _ _ c.loop-k.invariant.1 c.loop-k.invariant.2 c.narrow_variable-fewer.ensures.narrowed)
