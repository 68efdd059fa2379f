use Rattle.numerals.proofs.ReadingLaws.{Counted}
use Rattle.numerals.proofs.reading.read_run.Given as goal

abbrev pub invariant-loop-n : goal.invariant-loop-n
invariant-loop-n l = Counted l.rest l.value l.n
