use Rattle.matching.proofs.WriterLaws.Explain.{quiet-marked, quiet-unknown}
use Rattle.matching.proofs.writer.explain.next_line.Goals as goal

pub loop-p-preserved-then-has_mark : goal.loop-p-preserved-then-has_mark
loop-p-preserved-then-has_mark c = quiet-marked _ _ _ _ _ _ _ _ c.loop-p.invariant _ c.has_mark.ensures c.if-has_mark.true

pub loop-p-preserved : goal.loop-p-preserved
loop-p-preserved c = quiet-unknown _ _ _ _ _ _ _ _ c.loop-p.invariant c.in_default.ensures
