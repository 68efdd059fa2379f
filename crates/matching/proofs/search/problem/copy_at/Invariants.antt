use Rattle.matching.proofs.SearchLaws.Making.Numbers.{CopiedTo}
use Rattle.matching.proofs.search.problem.copy_at.Given as goal

abbrev pub invariant-loop-p : goal.invariant-loop-p
invariant-loop-p l = CopiedTo l.from l.at l.initial.to l.p l.to
