use Rattle.matching.proofs.WriterLaws.Lines.{pair-not, pair-second}
use Rattle.matching.proofs.writer.is_pair.Goals as goal

pub returns-then-left-i : goal.returns-then-left-i
returns-then-left-i c = pair-not _ _ c.args.right c.args.j c.if-left-i.true

pub returns : goal.returns
returns c = pair-second _ _ c.args.right c.args.j c.if-left-i.false
