use Rattle.incremental.proofs.MarkingLaws.{take_none, take_words}
use Rattle.incremental.proofs.marking.take.Goals as goal

pub returns-then-holds : goal.returns-then-holds
returns-then-holds c = take_none _ _ _ _ _ _ _ c.requires.square c.holds.ensures c.if-holds.true

pub returns : goal.returns
returns c = take_words _ _ _ _ _ c.take_word-a.ensures c.take_word-b.ensures c.take_word-c.ensures
