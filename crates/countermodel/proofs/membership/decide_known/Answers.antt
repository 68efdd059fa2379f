use Rattle.countermodel.proofs.MemberLaws.Deciding.{few-listed, choices-refused, size-refused, rows-refused, element-refused, walk-asked, known-yes, known-no}
use Rattle.subsumption.proofs.Refusals.{handed_up}
use Rattle.countermodel.proofs.membership.decide_known.Goals as goal

pub check_assignment-requires : goal.check_assignment-requires
check_assignment-requires c = few-listed _ _ _ c.requires

pub returns-in_err-check_assignment : goal.returns-in_err-check_assignment
returns-in_err-check_assignment c = rw (handed_up _ c.from_residual.ensures) (choices-refused _ _ _ _ _ _ _ _ _ c.check_assignment.ensures _ c.in_err-check_assignment.was)

pub returns-in_err-check_size : goal.returns-in_err-check_size
returns-in_err-check_size c = rw (handed_up _ c.from_residual-in_err-check_size.ensures) (size-refused _ _ _ _ _ _ _ _ _ c.check_assignment.ensures c.in_ok-check_assignment.was _ c.check_size.ensures _ c.in_err-check_size.was)

pub returns-in_err-check_rows : goal.returns-in_err-check_rows
returns-in_err-check_rows c = rw (handed_up _ c.from_residual-in_err-check_rows.ensures) (rows-refused _ _ _ _ _ _ _ _ _ c.check_assignment.ensures c.in_ok-check_assignment.was _ c.check_size.ensures c.in_ok-check_size.was _ c.check_rows.ensures _ c.in_err-check_rows.was)

pub returns-in_err-check_element : goal.returns-in_err-check_element
returns-in_err-check_element c = rw (handed_up _ c.from_residual-in_err-check_element.ensures) (element-refused _ _ _ _ _ _ _ _ _ c.check_assignment.ensures c.in_ok-check_assignment.was _ c.check_size.ensures c.in_ok-check_size.was _ c.check_rows.ensures c.in_ok-check_rows.was _ c.check_element.ensures _ c.in_err-check_element.was)

pub is_member-requires : goal.is_member-requires
is_member-requires c = let all = walk-asked _ _ _ _ _ _ _ _ _ c.check_assignment.ensures c.in_ok-check_assignment.was _ c.check_size.ensures c.in_ok-check_size.was _ c.check_rows.ensures c.in_ok-check_rows.was _ c.check_element.ensures c.in_ok-check_element.was c.requires in record { walkable = all.0; element_bound = all.1 }

pub returns-then-is_member : goal.returns-then-is_member
returns-then-is_member c = known-yes _ _ _ _ _ _ _ _ _ c.check_assignment.ensures c.in_ok-check_assignment.was _ c.check_size.ensures c.in_ok-check_size.was _ c.check_rows.ensures c.in_ok-check_rows.was _ c.check_element.ensures c.in_ok-check_element.was _ c.is_member.ensures c.if-is_member.true

pub returns : goal.returns
returns c = known-no _ _ _ _ _ _ _ _ _ c.check_assignment.ensures c.in_ok-check_assignment.was _ c.check_size.ensures c.in_ok-check_size.was _ c.check_rows.ensures c.in_ok-check_rows.was _ c.check_element.ensures c.in_ok-check_element.was _ c.is_member.ensures c.if-is_member.false
