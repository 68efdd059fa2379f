use Rattle.owl.proofs.TokenLaws.{Skipping}
use Rattle.owl.proofs.tokens.skip_spaces.Given as goal

abbrev pub invariant-loop-p : goal.invariant-loop-p
invariant-loop-p l = Skipping l.text l.at l.p
