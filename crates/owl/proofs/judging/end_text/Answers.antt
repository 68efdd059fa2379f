use Rattle.owl.proofs.JudgingLaws.{ends_open, ends-due, ends-well}
use Rattle.owl.proofs.judging.end_text.Goals as goal

pub returns-then-reader-gt0 : goal.returns-then-reader-gt0
returns-then-reader-gt0 c = search ends_open

pub returns-then-reader-ne-ITEM : goal.returns-then-reader-ne-ITEM
returns-then-reader-ne-ITEM c = search ends-due

pub returns : goal.returns
returns c = search ends-well
