use Rattle.owl.proofs.WordLaws.{reads-axiom, reads-top, reads-and, reads-some, reads-numbered}
use Rattle.owl.proofs.words.read_word.Goals as goal

pub returns-then-is_text : goal.returns-then-is_text
returns-then-is_text c = search reads-axiom

pub returns-then-is_text-2 : goal.returns-then-is_text-2
returns-then-is_text-2 c = search reads-top

pub returns-then-is_text-3 : goal.returns-then-is_text-3
returns-then-is_text-3 c = search reads-and

pub returns-then-is_text-4 : goal.returns-then-is_text-4
returns-then-is_text-4 c = search reads-some

pub returns : goal.returns
returns c = search reads-numbered
