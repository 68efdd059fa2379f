use Rattle.countermodel.proofs.MemberLaws.Checks.{name-element, name-last, link-element, link-last, other-kind}
use Rattle.countermodel.proofs.membership.check.is_bad_row.Goals as goal

pub returns-then-size-element : goal.returns-then-size-element
returns-then-size-element c = search name-element

pub returns-then-kind-eq0 : goal.returns-then-kind-eq0
returns-then-kind-eq0 c = search name-last

pub returns-then-size-element-2 : goal.returns-then-size-element-2
returns-then-size-element-2 c = search link-element

pub returns-then-kind-eq1 : goal.returns-then-kind-eq1
returns-then-kind-eq1 c = search link-last

pub returns : goal.returns
returns c = search other-kind
