use native.Mathlib.Omega.{arith}
use Rattle.matching.proofs.WriterLaws.Explain.{rule-none, rule-more, rule-done}
use Rattle.matching.proofs.writer.explain.explain.Goals as goal

pub loop-rule-init : goal.loop-rule-init
loop-rule-init c = (omega arith, rule-none _ _ _ _ _ _ _ _)

pub loop-rule-preserved : goal.loop-rule-preserved
loop-rule-preserved c = (omega arith, rule-more _ _ _ _ _ _ _ _ _ c.loop-rule.invariant.1 c.in_default.ensures)

pub returns : goal.returns
returns c = rule-done _ _ _ _ _ _ _ _ _ c.loop-rule.invariant.1 c.loop-rule-test.false
