use Rattle.owl.proofs.WordLaws.{text-other, text_same}
use Rattle.owl.proofs.words.is_text.Goals as goal

pub returns-then-word-text : goal.returns-then-word-text
returns-then-word-text c = search text-other

pub returns : goal.returns
returns c = search text_same
