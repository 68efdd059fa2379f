use Rattle.subsumption.proofs.MarkLaws.{PairsTo}
use Rattle.subsumption.proofs.counting.count_pairs.Given as goal

abbrev pub invariant-loop-j : goal.invariant-loop-j
invariant-loop-j l = PairsTo l.columns l.count l.j l.pairs
