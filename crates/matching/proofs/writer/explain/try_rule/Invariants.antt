use Rattle.matching.specs.Inner.Writer.Explain.{NoExtra}
use Rattle.matching.proofs.writer.explain.try_rule.Given as goal

abbrev pub invariant-loop-extra : goal.invariant-loop-extra
invariant-loop-extra l = NoExtra l.concepts l.inclusions l.into l.atoms l.assignment l.marks l.rule l.left l.right l.extra
