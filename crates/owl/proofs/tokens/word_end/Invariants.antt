use Rattle.owl.proofs.TokenLaws.{Wordy}
use Rattle.owl.proofs.tokens.word_end.Given as goal

abbrev pub invariant-loop-p : goal.invariant-loop-p
invariant-loop-p l = Wordy l.text l.at l.p
