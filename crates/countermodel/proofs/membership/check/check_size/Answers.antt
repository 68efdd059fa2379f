use Rattle.countermodel.proofs.MemberLaws.Checks.{size_none, size-over, size-ragged, size-right}
use Rattle.countermodel.proofs.membership.check.check_size.Goals as goal

pub returns-then-size-eq0 : goal.returns-then-size-eq0
returns-then-size-eq0 c = search size_none

pub returns-then-size-gt-ELEMENTS : goal.returns-then-size-gt-ELEMENTS
returns-then-size-gt-ELEMENTS c = search size-over

pub returns-then-rows-ne0 : goal.returns-then-rows-ne0
returns-then-rows-ne0 c = search size-ragged

pub returns : goal.returns
returns c = search size-right
