use Rattle.matching.specs.Inner.Writer.Explain.{QuietFrom}
use Rattle.matching.proofs.writer.explain.next_line.Given as goal

abbrev pub invariant-loop-p : goal.invariant-loop-p
invariant-loop-p l = QuietFrom l.concepts l.inclusions l.into l.atoms l.assignment l.marks l.from l.p
