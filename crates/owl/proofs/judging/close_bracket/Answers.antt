use Rattle.owl.proofs.JudgingLaws.{closes-due, closes-none, closes-frame}
use Rattle.owl.proofs.judging.close_bracket.Goals as goal

pub returns-then-reader-ne-ITEM : goal.returns-then-reader-ne-ITEM
returns-then-reader-ne-ITEM c = search closes-due

pub returns-then-reader-eq0 : goal.returns-then-reader-eq0
returns-then-reader-eq0 c = search closes-none

pub returns : goal.returns
returns c = search closes-frame
