use Rattle.subsumption.proofs.Deciding.{few-atoms, few-concepts, prepared-ready, known-refused, known-yes, known-no}
use native.Mathlib.Omega.{arith}
use Rattle.subsumption.proofs.Deciding.{prepared-roles}
use Rattle.subsumption.proofs.Refusals.{handed_up}
use Rattle.subsumption.proofs.decide.decide_known.Goals as goal

pub check_assignment-requires : goal.check_assignment-requires
check_assignment-requires c = few-atoms _ _ _ _ _ c.requires.prepared

pub returns-in_err-check_assignment : goal.returns-in_err-check_assignment
returns-in_err-check_assignment c = rw (handed_up _ c.from_residual.ensures) (known-refused _ _ _ _ _ _ _ _ c.requires.left_bound.0 c.requires.left_bound.1 _ c.check_assignment.ensures _ c.in_err-check_assignment.was)

pub close-requires : goal.close-requires
close-requires c = record { ready = prepared-ready _ _ _ _ _ c.requires.prepared _ _ c.check_assignment.ensures c.in_ok-check_assignment.was; low_roles = prepared-roles _ _ _ _ _ c.requires.prepared }

pub below-requires : goal.below-requires
below-requires c = record { i_bound = (omega (arith, few-concepts _ _ _ _ _ c.requires.prepared, c.requires.left_bound.0), omega (arith, few-concepts _ _ _ _ _ c.requires.prepared, c.requires.left_bound.1)) }

pub returns-then-below : goal.returns-then-below
returns-then-below c = known-yes _ _ _ _ _ _ _ _ c.requires.left_bound.0 c.requires.left_bound.1 _ c.check_assignment.ensures c.in_ok-check_assignment.was _ c.close.ensures _ c.below.ensures c.if-below.true

pub returns : goal.returns
returns c = known-no _ _ _ _ _ _ _ _ c.requires.left_bound.0 c.requires.left_bound.1 _ c.check_assignment.ensures c.in_ok-check_assignment.was _ c.close.ensures _ c.below.ensures c.if-below.false
