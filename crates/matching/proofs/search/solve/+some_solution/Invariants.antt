use Rattle.matching.specs.Inner.Search.Interval.{open_pairs}
use Rattle.matching.proofs.search.solve.+some_solution.Given as goal

abbrev pub decreases-some_solution : goal.decreases-some_solution
decreases-some_solution l = open_pairs l.interval.low l.interval.high
