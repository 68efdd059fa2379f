use Rattle.subsumption.specs.Inner.Lent.{given}
use Rattle.batches.proofs.RunLaws.{RanTo}
use Rattle.batches.proofs.find.find_each.Given as goal

abbrev pub invariant-loop-k : goal.invariant-loop-k
invariant-loop-k l = RanTo (given l.tables) l.lengths l.shares l.initial.out l.out l.numbers l.places l.counts l.start l.left l.k
