use lib.Bits.{bit_or}
use Rattle.matching.proofs.SearchLaws.Pairs.{Combined}
use Rattle.matching.proofs.search.pairs.join.Given as goal

abbrev pub invariant-loop-k : goal.invariant-loop-k
invariant-loop-k l = Combined bit_or l.initial.sum l.b l.sum l.k
