use Rattle.matching.proofs.SearchLaws.Making.Closers.{closers-more}
use native.Mathlib.Omega.{arith}
use Rattle.matching.proofs.search.problem.note_closers.Goals as goal

pub loop-m-preserved : goal.loop-m-preserved
loop-m-preserved c = closers-more _ _ _ _ _ _ c.requires.shaped.numbers c.requires.count_bound (omega arith) c.loop-m.invariant c.note_closers_of.ensures
