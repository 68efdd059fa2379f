use Rattle.matching.proofs.WriterLaws.Writing.{known-grounds, known-asked, known-stops, known-short, known-subsumed, known-lines, known-not, known-never}
use Rattle.matching.proofs.DerivationLaws.Cells.{square-small}
use Rattle.subsumption.proofs.Deciding.{few-atoms, few-concepts}
use native.Mathlib.Omega.{arith}
use Rattle.subsumption.proofs.Deciding.{prepared-roles}
use mathlib.Core.Path.{refl, ◌∙◌, ap}
use Rattle.std.specs.Prelude.{Ok}
use Rattle.subsumption.proofs.Refusals.{handed_up}
use Rattle.matching.proofs.writer.derive_known.Goals as goal

pub check_assignment-requires : goal.check_assignment-requires
check_assignment-requires c = few-atoms _ _ _ _ _ c.requires.prepared

pub returns-in_err-check_assignment : goal.returns-in_err-check_assignment
returns-in_err-check_assignment c = rw (handed_up _ c.from_residual.ensures) (known-stops _ _ _ _ _ _ _ _ c.requires.left_bound.0 c.requires.left_bound.1 c.args.out.now _ c.check_assignment.ensures _ c.in_err-check_assignment.was)

pub overflow_mul-wanted : goal.overflow_mul-wanted
overflow_mul-wanted c = omega (arith, square-small _ (few-concepts _ _ _ _ _ c.requires.prepared))

pub overflow_mul-wanted-2 : goal.overflow_mul-wanted-2
overflow_mul-wanted-2 c = omega (arith, square-small _ (few-concepts _ _ _ _ _ c.requires.prepared))

pub returns-then-out-wanted : goal.returns-then-out-wanted
returns-then-out-wanted c = known-short _ _ _ _ _ _ _ _ c.requires.left_bound.0 c.requires.left_bound.1 c.args.out.now _ c.check_assignment.ensures c.in_ok-check_assignment.was c.if-out-wanted.true

pub note_roles-requires : goal.note_roles-requires
note_roles-requires c = record { low_roles = prepared-roles _ _ _ _ _ c.requires.prepared; into_value = refl }

pub put_lines-requires : goal.put_lines-requires
put_lines-requires c = let yes = c.in_ok-below.was ∙ ap Ok c.if-not-below.false in record { grounds = known-grounds _ _ _ _ _ _ c.requires.prepared _ c.check_assignment.ensures c.in_ok-check_assignment.was; asked = known-asked _ _ _ _ _ _ c.requires.prepared _ c.check_assignment.ensures c.in_ok-check_assignment.was _ c.note_roles.ensures _ _ c.requires.left_bound.0 c.requires.left_bound.1 (known-subsumed _ _ _ _ _ _ _ _ c.requires.left_bound.0 c.requires.left_bound.1 c.args.out.now _ c.check_assignment.ensures c.in_ok-check_assignment.was c.if-out-wanted.false c.decide_known.result c.decide_known.ensures yes _ c.requires.prepared.accepted); concepts_in_bounds = c.if-out-wanted.false }

pub returns : goal.returns
returns c = let yes = c.in_ok-below.was ∙ ap Ok c.if-not-below.false in known-lines _ _ _ _ _ _ _ _ c.requires.left_bound.0 c.requires.left_bound.1 c.args.out.now _ c.check_assignment.ensures c.in_ok-check_assignment.was c.if-out-wanted.false c.decide_known.result c.decide_known.ensures _ c.note_roles.ensures _ _ yes c.put_lines.ensures

pub returns-then-not-below : goal.returns-then-not-below
returns-then-not-below c = known-not _ _ _ _ _ _ _ _ c.requires.left_bound.0 c.requires.left_bound.1 c.args.out.now _ c.check_assignment.ensures c.in_ok-check_assignment.was c.if-out-wanted.false c.decide_known.result c.decide_known.ensures (c.in_ok-below.was ∙ ap Ok c.if-not-below.true)

pub returns-in_err-below : goal.returns-in_err-below
returns-in_err-below c = rw (handed_up _ c.from_residual-in_err-below.ensures) (known-never _ _ _ _ _ _ _ _ c.requires.left_bound.0 c.requires.left_bound.1 c.args.out.now _ c.check_assignment.ensures c.in_ok-check_assignment.was c.if-out-wanted.false c.decide_known.result c.decide_known.ensures _ c.in_err-below.was)
