use Rattle.incremental.proofs.SettlingLaws.{Spreading}
use Rattle.incremental.proofs.settling.spread.Given as goal

abbrev pub invariant-loop-q : goal.invariant-loop-q
invariant-loop-q l = Spreading l.q l.atoms l.choice l.to l.initial.square l.square l.changed
