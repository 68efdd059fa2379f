use mathlib.Core.Path.{◌∙◌, sym}
use Rattle.subsumption.specs.Check.{alone_fault}
use Rattle.subsumption.proofs.Refusals.{refused-if, done-if}
use Rattle.subsumption.proofs.check.check_alone.Goals as goal

pub returns-then-is_no_concept : goal.returns-then-is_no_concept
unfolding alone_fault
returns-then-is_no_concept c = refused-if _ _ (sym c.is_no_concept.ensures ∙ c.if-is_no_concept.true)

pub returns : goal.returns
unfolding alone_fault
returns c = done-if _ _ (sym c.is_no_concept.ensures ∙ c.if-is_no_concept.false)
