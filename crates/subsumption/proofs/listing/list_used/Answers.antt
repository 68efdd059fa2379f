use Rattle.subsumption.proofs.Accepted.{concepts-few}
use native.Mathlib.Omega.{arith}
use Rattle.subsumption.proofs.ListingLaws.{used-refused, used-short, used-room, used-listed}
use Rattle.subsumption.proofs.Refusals.{handed_up}
use Rattle.subsumption.proofs.listing.list_used.Goals as goal

pub returns-in_err-check_use : goal.returns-in_err-check_use
returns-in_err-check_use c = rw (handed_up _ c.from_residual.ensures) (used-refused _ _ _ _ c.check_use.ensures _ c.in_err-check_use.was)

pub returns-then-out-lt-ATOMS : goal.returns-then-out-lt-ATOMS
returns-then-out-lt-ATOMS c = used-short _ _ _ _ c.check_use.ensures c.in_ok-check_use.was c.if-out-lt-ATOMS.true

pub list_marks-requires : goal.list_marks-requires
list_marks-requires c = record { count_bound = concepts-few _ c.requires.variables_value; count_in_bounds = omega (arith, concepts-few _ c.requires.variables_value, (c.check_use.ensures.marked c.in_ok-check_use.was).long); count_in_bounds_2 = used-room _ c.args.out.now _ _ c.check_use.ensures c.in_ok-check_use.was c.if-out-lt-ATOMS.false }

pub returns : goal.returns
returns c = used-listed _ _ _ _ c.check_use.ensures _ _ c.in_ok-check_use.was c.if-out-lt-ATOMS.false c.list_marks.ensures.value c.list_marks.ensures.out_value
