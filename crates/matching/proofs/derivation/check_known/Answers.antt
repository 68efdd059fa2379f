use Rattle.subsumption.specs.Refusal.{Done}
use Rattle.subsumption.proofs.Refusals.{is-done, handed_up}
use Rattle.subsumption.proofs.Deciding.{few-atoms, prepared-ready, known-fault}
use Rattle.matching.proofs.DerivationLaws.Lines.{accepted-of, asked-stops, shape-stops, rules-stops, last-decides}
use Rattle.subsumption.proofs.Deciding.{prepared-roles}
use mathlib.Core.Path.{refl}
use Rattle.matching.proofs.derivation.check_known.Goals as goal

pub check_assignment-requires : goal.check_assignment-requires
check_assignment-requires c = few-atoms _ _ _ _ _ c.requires.prepared

pub returns-in_err-check_assignment : goal.returns-in_err-check_assignment
returns-in_err-check_assignment c = rw (handed_up _ c.from_residual.ensures) (λ qs a. asked-stops _ _ _ _ _ _ Done Done Done (known-fault _ _ _ _ _ _ _ _ c.requires.left_bound.0 c.requires.left_bound.1 _ c.check_assignment.ensures qs a) _ c.in_err-check_assignment.was)

pub returns-in_err-check_shape : goal.returns-in_err-check_shape
returns-in_err-check_shape c = rw (handed_up _ c.from_residual-in_err-check_shape.ensures) (λ qs a. shape-stops _ _ _ _ _ _ _ Done Done (known-fault _ _ _ _ _ _ _ _ c.requires.left_bound.0 c.requires.left_bound.1 _ c.check_assignment.ensures qs a) c.in_ok-check_assignment.was c.check_shape.ensures _ c.in_err-check_shape.was)

pub note_roles-requires : goal.note_roles-requires
note_roles-requires c = record { low_roles = prepared-roles _ _ _ _ _ c.requires.prepared; into_value = refl }

pub check_rules-requires : goal.check_rules-requires
check_rules-requires c = record { ready = prepared-ready _ _ _ _ _ c.requires.prepared _ _ c.check_assignment.ensures c.in_ok-check_assignment.was }

pub returns-in_err-check_rules : goal.returns-in_err-check_rules
returns-in_err-check_rules c = rw (handed_up _ c.from_residual-in_err-check_rules.ensures) (λ qs a. rules-stops _ _ _ _ _ _ _ _ Done (known-fault _ _ _ _ _ _ _ _ c.requires.left_bound.0 c.requires.left_bound.1 _ c.check_assignment.ensures qs a) c.in_ok-check_assignment.was c.check_shape.ensures c.in_ok-check_shape.was (c.check_rules.ensures.tells _ (accepted-of _ _ _ a c.note_roles.ensures)) _ c.in_err-check_rules.was)

pub check_last-requires : goal.check_last-requires
check_last-requires c = is-done _ _ c.check_shape.ensures c.in_ok-check_shape.was

pub returns : goal.returns
returns c = λ qs a. last-decides _ _ _ _ _ _ _ _ _ (known-fault _ _ _ _ _ _ _ _ c.requires.left_bound.0 c.requires.left_bound.1 _ c.check_assignment.ensures qs a) c.in_ok-check_assignment.was c.check_shape.ensures c.in_ok-check_shape.was (c.check_rules.ensures.tells _ (accepted-of _ _ _ a c.note_roles.ensures)) c.in_ok-check_rules.was c.check_last.ensures
