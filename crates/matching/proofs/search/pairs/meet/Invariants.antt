use lib.Bits.{bit_and}
use Rattle.matching.proofs.SearchLaws.Pairs.{Combined}
use Rattle.matching.proofs.search.pairs.meet.Given as goal

abbrev pub invariant-loop-k : goal.invariant-loop-k
invariant-loop-k l = Combined bit_and l.initial.common l.b l.common l.k
