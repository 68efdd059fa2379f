use native.Mathlib.Omega.{arith}
use Rattle.subsumption.proofs.Refusals.{handed_up}
use Rattle.hermitcasket.proofs.ReadLaws.{section-within, section-room, last-refused, last-damaged, last-asked}
use Rattle.hermitcasket.proofs.text.read_questions.Goals as goal

pub returns-in_err-section : goal.returns-in_err-section
returns-in_err-section c = rw (handed_up _ c.from_residual.ensures) (last-refused _ _ _ _ c.read_section.ensures _ c.in_err-section.was)

pub behind-last-requires : goal.behind-last-requires
behind-last-requires c = section-within _ _ _ _ _ _ _ c.read_section.ensures _ c.in_ok-section.was

pub overflow_add-at : goal.overflow_add-at
overflow_add-at c = omega (arith, section-within _ _ _ _ _ _ _ c.read_section.ensures _ c.in_ok-section.was, c.requires)

pub read_end-requires : goal.read_end-requires
read_end-requires c = section-room _ _ _ _ _ _ _ c.read_section.ensures _ c.in_ok-section.was c.requires.rest_bound _ c.behind-last.ensures

pub returns-in_err-ask : goal.returns-in_err-ask
returns-in_err-ask c =
    rw (handed_up _ c.from_residual-in_err-ask.ensures)
    (last-damaged _ _ _ _ c.read_section.ensures _ c.in_ok-section.was _ c.behind-last.ensures _ c.read_end.ensures _ c.in_err-ask.was)

pub returns : goal.returns
returns c = last-asked _ _ _ _ c.read_section.ensures _ c.in_ok-section.was _ c.behind-last.ensures _ c.read_end.ensures _ c.in_ok-ask.was
