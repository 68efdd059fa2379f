use Prim.Native.Nat.{◌≤◌}
use Rattle.matching.specs.Inner.Writer.Explain.{NoRule}
use Rattle.matching.proofs.writer.explain.explain.Given as goal

abbrev pub invariant-loop-rule : goal.invariant-loop-rule
invariant-loop-rule l = (l.rule ≤ 9) × NoRule l.concepts l.inclusions l.into l.atoms l.assignment l.marks l.left l.right l.rule
