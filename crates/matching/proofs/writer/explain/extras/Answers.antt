use Rattle.std.proofs.Common.{rules}
use Rattle.matching.proofs.WriterLaws.Explain.{member-bound, inclusion-bound, choice-bound, variable-bound, zero-bound}
use Rattle.matching.proofs.writer.explain.extras.Goals as goal

pub returns-then-rule-eq3 : goal.returns-then-rule-eq3
returns-then-rule-eq3 c = member-bound _ _ _ _ c.if-rule-eq3.true

pub returns-then-rule-eq6 : goal.returns-then-rule-eq6
returns-then-rule-eq6 c = inclusion-bound _ _ _ _ c.if-rule-eq6.true c.requires.concepts_bound.1

pub returns-in_default : goal.returns-in_default
returns-in_default c = variable-bound _ _ _ _ c.if-rule-eq7.true (λ k e. search rules)

pub returns-then-rule-eq7 : goal.returns-then-rule-eq7
returns-then-rule-eq7 c = choice-bound _ _ _ _ c.if-rule-eq7.true c.requires.concepts_bound.0

pub returns : goal.returns
returns c = zero-bound _ _ _ _ c.if-rule-eq3.false c.if-rule-eq6.false c.if-rule-eq7.false
