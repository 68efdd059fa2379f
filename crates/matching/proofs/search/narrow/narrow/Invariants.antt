use mathlib.Core.Path.{◌≡◌}
use lib.ListN.{length}
use Rattle.matching.specs.Inner.Search.Narrow.{Narrowed}
use Rattle.matching.proofs.search.narrow.narrow.Given as goal

abbrev pub invariant-loop-m : goal.invariant-loop-m
invariant-loop-m l = (length l.scratch ≡ 16977) × (length l.high ≡ 8) × Narrowed l.sets l.problem l.initial.high l.high
