use Rattle.matching.proofs.SearchLaws.Pairs.{MixedTo}
use Rattle.matching.proofs.search.widen.with_run.Given as goal

abbrev pub invariant-loop-k : goal.invariant-loop-k
invariant-loop-k l = MixedTo l.choice l.target l.mix l.k
