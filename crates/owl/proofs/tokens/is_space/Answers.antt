use Rattle.owl.proofs.TokenLaws.{space-32, space-10, space-13}
use Rattle.owl.proofs.tokens.is_space.Goals as goal

pub returns-then-b-eq32 : goal.returns-then-b-eq32
returns-then-b-eq32 c = search space-32

pub returns-then-b-eq10 : goal.returns-then-b-eq10
returns-then-b-eq10 c = search space-10

pub returns : goal.returns
returns c = search space-13
