use Rattle.matching.proofs.SearchLaws.Pairs.{MixedTo}
use Rattle.matching.proofs.search.widen.with_others.Given as goal

abbrev pub invariant-loop-k : goal.invariant-loop-k
invariant-loop-k l = MixedTo l.initial.mix l.target l.mix l.k
