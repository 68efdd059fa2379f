use Prim.Native.Nat.{◌≤◌}
use Rattle.subsumption.proofs.TwinKeys.{NoneTo}
use Rattle.subsumption.proofs.twins.first_same.Given as goal

abbrev pub invariant-loop-q : goal.invariant-loop-q
invariant-loop-q l = (l.q ≤ l.i) × NoneTo l.keys l.i l.q
