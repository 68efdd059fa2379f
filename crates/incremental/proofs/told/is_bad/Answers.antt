use mathlib.Core.Path.{◌∙◌}
use Rattle.std.proofs.lemmas.Bool.{le-leb}
use native.Mathlib.Omega.{arith}
use Rattle.incremental.proofs.ToldLaws.{bad-variable, bad-atom}
use Rattle.incremental.proofs.told.is_bad.Goals as goal

pub returns-then-variables-variable : goal.returns-then-variables-variable
returns-then-variables-variable c = le-leb c.args.variables c.args.variable (omega arith) ∙ bad-variable c.args.atoms.now c.args.variables c.args.variable c.args.id (omega arith)

pub returns-else-variables-variable : goal.returns-else-variables-variable
returns-else-variables-variable c = bad-atom c.args.atoms.now c.args.variables c.args.variable c.args.id _ (omega arith) c.place_of.ensures
