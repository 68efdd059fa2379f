use mathlib.Core.Path.{◌∙◌}
use Rattle.std.proofs.lemmas.Bool.{eq-eqb}
use Rattle.owl.proofs.TokenLaws.{bracket-40, bracket-41}
use Rattle.owl.proofs.tokens.is_bracket.Goals as goal

pub returns-then-b-eq40 : goal.returns-then-b-eq40
returns-then-b-eq40 c = eq-eqb c.args.b 40 c.if-b-eq40.true ∙ search bracket-40

pub returns-else-b-eq40 : goal.returns-else-b-eq40
returns-else-b-eq40 c = search bracket-41
