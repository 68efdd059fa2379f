use Rattle.numerals.proofs.ReadingLaws.{wrong-low, wrong-high, wrong-zero, wrong-large-after, wrong-large-first}
use Rattle.numerals.proofs.reading.is_wrong_digit.Goals as goal

pub returns-then-byte-lt48 : goal.returns-then-byte-lt48
returns-then-byte-lt48 c = search wrong-low

pub returns-then-byte-gt57 : goal.returns-then-byte-gt57
returns-then-byte-gt57 c = search wrong-high

pub returns-then-count-eq0 : goal.returns-then-count-eq0
returns-then-count-eq0 c = search wrong-large-first

pub returns-then-value-eq0 : goal.returns-then-value-eq0
returns-then-value-eq0 c = search wrong-zero

pub returns : goal.returns
returns c = search wrong-large-after
