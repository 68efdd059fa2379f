use Rattle.matching.proofs.WriterLaws.Lines.{write-front}
use Rattle.matching.proofs.writer.write_line.Goals as goal

pub returns : goal.returns
returns c = write-front c.args.out.now c.args.n _ _ _ _ c.requires _ c.put_line.ensures
