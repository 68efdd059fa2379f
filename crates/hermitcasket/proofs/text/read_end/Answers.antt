use Rattle.hermitcasket.proofs.SectionLaws.{end_none, end-off, end_more, end-shown}
use Rattle.hermitcasket.proofs.text.read_end.Goals as goal

pub returns-then-rest-eq0 : goal.returns-then-rest-eq0
returns-then-rest-eq0 c = search end_none

pub returns-in_default : goal.returns-in_default
returns-in_default c = search end-off

pub returns-then-line-rest : goal.returns-then-line-rest
returns-then-line-rest c = search end_more

pub returns : goal.returns
returns c = search end-shown
