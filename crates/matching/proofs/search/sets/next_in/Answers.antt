use Rattle.matching.proofs.SearchLaws.Sets.{walked-found, walked_more}
use native.Mathlib.Omega.{arith}
use Rattle.matching.proofs.search.sets.next_in.Goals as goal

pub returns-then-place-lt64 : goal.returns-then-place-lt64
returns-then-place-lt64 c = walked-found _ _ _ _ _ _ (omega arith) c.loop-w.invariant c.next_bit-place.ensures (omega arith)

pub loop-w-preserved : goal.loop-w-preserved
loop-w-preserved c = walked_more _ _ _ _ _ _ (omega arith) c.loop-w.invariant c.next_bit-place.ensures (omega arith)
