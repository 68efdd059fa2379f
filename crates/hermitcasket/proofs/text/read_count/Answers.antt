use Rattle.hermitcasket.proofs.SectionLaws.{count_none, count-over, count-through}
use Rattle.hermitcasket.proofs.text.read_count.Goals as goal

pub returns-in_default : goal.returns-in_default
returns-in_default c = search count_none

pub returns-then-limit-found : goal.returns-then-limit-found
returns-then-limit-found c = search count-over

pub returns : goal.returns
returns c = search count-through
