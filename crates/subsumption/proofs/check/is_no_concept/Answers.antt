use Rattle.std.proofs.lemmas.Bool.{le-leb}
use mathlib.Core.Path.{◌∙◌}
use Rattle.subsumption.proofs.Forward.{no-left, no-right}
use Rattle.subsumption.proofs.check.is_no_concept.Goals as goal

pub returns-then-count-left : goal.returns-then-count-left
returns-then-count-left c = le-leb c.args.count c.args.left c.if-count-left.true ∙ search no-left

pub returns-else-count-left : goal.returns-else-count-left
returns-else-count-left c = search no-right
