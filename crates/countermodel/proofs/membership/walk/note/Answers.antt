use mathlib.Core.Path.{refl, sym}
use Rattle.countermodel.proofs.membership.walk.note.Goals as goal

pub returns-then-answer : goal.returns-then-answer
returns-then-answer c = (sym c.if-answer.true, rw c.if-answer.true refl)

pub returns : goal.returns
returns c = (sym c.if-answer.false, rw c.if-answer.false refl)
