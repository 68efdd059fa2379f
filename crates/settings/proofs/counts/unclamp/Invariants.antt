use Rattle.settings.proofs.CountLaws.{UnclampedTo}
use Rattle.settings.proofs.counts.unclamp.Given as goal

abbrev pub invariant-loop-k : goal.invariant-loop-k
invariant-loop-k l = UnclampedTo l.full l.low l.high l.inner l.initial.below l.initial.above l.below l.above l.k
