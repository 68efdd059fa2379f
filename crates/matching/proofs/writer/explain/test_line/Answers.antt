use Rattle.matching.proofs.WriterLaws.Explain.{tested-new}
use Rattle.matching.proofs.writer.explain.test_line.Goals as goal

-- src/writer/explain.rt:170:8
pub by_rule-requires : goal.by_rule-requires
by_rule-requires c = record { ready = c.requires.grounds.ready; square = c.requires.square; left_bound = (c.if-count-left.false, c.if-count-right.false) }

-- src/writer/explain.rt:182:9
pub returns-then-by_rule : goal.returns-then-by_rule
returns-then-by_rule c = tested-new _ _ _ _ _ _ _ _ _ _ _ _ c.if-rule-ge9.false c.if-count-left.false c.if-count-right.false c.if-extra-ge192.false c.has_mark.ensures c.if-has_mark.false c.by_rule.ensures c.if-by_rule.true
