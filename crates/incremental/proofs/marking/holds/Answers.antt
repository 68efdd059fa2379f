use mathlib.Core.Path.{refl}
use borrow.Author.Tests.{eqb-true}
use Rattle.incremental.proofs.MarkingLaws.{holding}
use Rattle.subsumption.proofs.Columns.{not-both}
use Rattle.incremental.proofs.marking.holds.Goals as goal

pub returns-then-square-at : goal.returns-then-square-at
returns-then-square-at c = λ e. not-both _ e refl

pub returns-then-square-at-2 : goal.returns-then-square-at-2
returns-then-square-at-2 c = λ e. not-both _ e refl

pub returns : goal.returns
returns c = holding _ _ _ _ _ c.if-square-at.false c.if-square-at-2.false _ (λ e. eqb-true _ _ e)
