use Rattle.std.proofs.lemmas.Bool.{ne_eqb}
use mathlib.Core.Bool.{not}
use mathlib.Core.Path.{ap}
use mathlib.Core.Path.{◌∙◌}
use Rattle.subsumption.proofs.LimitLaws.{ragged, even-rows}
use Rattle.subsumption.proofs.check.is_unfit.Goals as goal

pub returns-then-numbers-width-ne0 : goal.returns-then-numbers-width-ne0
returns-then-numbers-width-ne0 c = ap not (ne_eqb _ 0 c.if-numbers-width-ne0.true) ∙ search ragged

pub returns-else-numbers-width-ne0 : goal.returns-else-numbers-width-ne0
returns-else-numbers-width-ne0 c = search even-rows
