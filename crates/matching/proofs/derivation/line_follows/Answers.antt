use Rattle.matching.proofs.DerivationLaws.Lines.{line-left, line-right, line-rule}
use Rattle.matching.proofs.derivation.line_follows.Goals as goal

pub returns-then-count-left : goal.returns-then-count-left
returns-then-count-left c = line-left _ _ _ _ _ c.args.marks.now _ _ c.requires.ready c.requires.marks_of _ c.number_at-left.ensures c.if-count-left.true

pub returns-then-count-right : goal.returns-then-count-right
returns-then-count-right c = line-right _ _ _ _ _ c.args.marks.now _ _ c.requires.ready c.requires.marks_of _ c.number_at-right.ensures c.if-count-right.true

pub by_rule-requires : goal.by_rule-requires
by_rule-requires c = record { ready = c.requires.ready; square = c.requires.marks_of.square; left_bound = (c.if-count-left.false, c.if-count-right.false) }

pub returns : goal.returns
returns c = line-rule _ _ _ _ _ c.args.marks.now _ _ c.requires.ready c.requires.marks_of _ _ _ _ _ c.number_at-rule.ensures c.number_at-left.ensures c.number_at-right.ensures c.number_at-extra.ensures c.if-count-left.false c.if-count-right.false c.by_rule.ensures
