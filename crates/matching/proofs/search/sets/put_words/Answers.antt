use lib.ListN.{length-set}
use Rattle.matching.proofs.SearchLaws.Sets.{put-at}
use native.Mathlib.Omega.{arith}
use Rattle.matching.proofs.search.sets.put_words.Goals as goal

pub bounds-values-at-2 : goal.bounds-values-at-2
bounds-values-at-2 c = simp length-set (omega arith)

pub bounds-values-at-3 : goal.bounds-values-at-3
bounds-values-at-3 c = simp length-set (omega arith)

pub returns : goal.returns
returns c = put-at _ _ _ (omega arith)
