use native.Mathlib.Omega.{arith}
use lib.ListN.{length-set}
use Rattle.matching.proofs.WriterLaws.Lines.{put_front}
use Rattle.matching.proofs.writer.put_line.Goals as goal

pub bounds-rest-1 : goal.bounds-rest-1
bounds-rest-1 c = simp length-set (omega arith)

pub bounds-rest-2 : goal.bounds-rest-2
bounds-rest-2 c = simp length-set (omega arith)

pub returns : goal.returns
returns c = put_front c.args.rest.now _ _ _ _ c.requires
