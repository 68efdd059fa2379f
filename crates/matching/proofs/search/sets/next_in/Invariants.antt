use Rattle.matching.proofs.SearchLaws.Sets.{WalkedTo}
use Rattle.matching.proofs.search.sets.next_in.Given as goal

abbrev pub invariant-loop-w : goal.invariant-loop-w
invariant-loop-w l = WalkedTo l.sets l.at l.from l.w l.start
