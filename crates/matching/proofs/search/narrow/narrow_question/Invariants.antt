use mathlib.Core.Path.{◌≡◌}
use lib.ListN.{length}
use Rattle.matching.specs.Inner.Search.Narrow.{Narrowed}
use Rattle.matching.proofs.search.narrow.narrow_question.Given as goal

abbrev pub invariant-loop-k : goal.invariant-loop-k
invariant-loop-k l = (length l.scratch ≡ 16977) × (length l.high ≡ 8) × Narrowed l.sets l.problem l.initial.high l.high
