use Rattle.matching.proofs.SearchLaws.Needs.{Wanting}
use Rattle.matching.proofs.search.needs.count_needs.Given as goal

abbrev pub invariant-loop-c : goal.invariant-loop-c
invariant-loop-c l = Wanting l.problem l.store l.initial.allowed l.low l.high l.k l.about l.allowed l.met l.sum l.c
