use Rattle.countermodel.proofs.MemberLaws.Checks.{no-concept, no-element, asked-right}
use Rattle.countermodel.proofs.membership.check.check_element.Goals as goal

pub returns-then-count-concept : goal.returns-then-count-concept
returns-then-count-concept c = search no-concept

pub returns-then-size-element : goal.returns-then-size-element
returns-then-size-element c = search no-element

pub returns : goal.returns
returns c = search asked-right
