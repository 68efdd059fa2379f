use Rattle.subsumption.proofs.Choices.{Spread}
use Rattle.subsumption.proofs.closure.columns.spread.Given as goal

abbrev pub invariant-loop-q : goal.invariant-loop-q
invariant-loop-q l = Spread l.q l.atoms l.choice l.initial.columns l.from l.columns l.changed
