use Rattle.hermitcasket.proofs.NumberLaws.{number-empty, number-unended, number-other, number-ended}
use Rattle.hermitcasket.proofs.lines.read_number.Goals as goal

pub returns-then-n-eq0 : goal.returns-then-n-eq0
returns-then-n-eq0 c = search number-empty

pub returns-then-rest-n : goal.returns-then-rest-n
returns-then-rest-n c = search number-unended

pub returns-then-rest-n-2 : goal.returns-then-rest-n-2
returns-then-rest-n-2 c = search number-other

pub returns : goal.returns
returns c = search number-ended
