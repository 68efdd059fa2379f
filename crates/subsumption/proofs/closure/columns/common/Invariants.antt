use Prim.Native.Nat.{◌≤◌}
use lib.ListN.{length}
use Rattle.subsumption.specs.Inner.Columns.{Common}
use Rattle.subsumption.proofs.closure.columns.common.Given as goal

abbrev pub invariant-loop-q : goal.invariant-loop-q
invariant-loop-q l = (l.q ≤ length l.atoms) × Common l.q l.atoms l.choice l.columns 0 l.first × Common l.q l.atoms l.choice l.columns 1 l.second × Common l.q l.atoms l.choice l.columns 2 l.third
