use Rattle.countermodel.proofs.NotingLaws.{mark-read}
use Rattle.countermodel.proofs.marks.is_marked.Goals as goal

pub returns : goal.returns
returns c = mark-read _ _ _
