use Rattle.incremental.proofs.ByteLaws.{added_none}
use Rattle.incremental.proofs.bytes.store_word.Goals as goal

pub returns-then-old-word : goal.returns-then-old-word
returns-then-old-word c = added_none _ _ _ _ c.word_at-old.ensures c.if-old-word.true

pub returns : goal.returns
returns c = c.add_word.ensures
