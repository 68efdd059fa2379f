use Rattle.settings.proofs.CountLaws.{ClampedTo}
use Rattle.settings.proofs.counts.clamp.Given as goal

abbrev pub invariant-loop-k : goal.invariant-loop-k
invariant-loop-k l = ClampedTo l.most l.low l.initial.inner l.inner l.k
