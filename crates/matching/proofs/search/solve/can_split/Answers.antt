use native.Mathlib.Omega.{arith}
use Rattle.matching.proofs.SearchLaws.Solve.{split-as}
use Rattle.matching.proofs.search.solve.can_split.Goals as goal

pub returns-then-pair-lt-PAIRS : goal.returns-then-pair-lt-PAIRS
returns-then-pair-lt-PAIRS c = split-as _ _ _ _ (omega arith) c.is_undecided.ensures
