use Rattle.subsumption.specs.Inner.Columns.{Common}
use Rattle.incremental.proofs.settling.common.Given as goal

abbrev pub invariant-loop-q : goal.invariant-loop-q
invariant-loop-q l =
    Common l.q l.atoms l.choice l.columns 0 l.first
    × Common l.q l.atoms l.choice l.columns 1 l.second
    × Common l.q l.atoms l.choice l.columns 2 l.third
