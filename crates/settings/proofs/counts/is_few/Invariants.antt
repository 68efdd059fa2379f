use Rattle.settings.proofs.CountLaws.{FewTo}
use Rattle.settings.proofs.counts.is_few.Given as goal

abbrev pub invariant-loop-k : goal.invariant-loop-k
invariant-loop-k l = FewTo l.most l.choice l.k
