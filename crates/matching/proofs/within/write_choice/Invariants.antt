use Prim.Native.Nat.{◌≤◌}
use Rattle.matching.specs.Inner.Within.{Copied}
use Rattle.matching.proofs.within.write_choice.Given as goal

abbrev pub invariant-loop-k : goal.invariant-loop-k
invariant-loop-k l = (l.k ≤ l.count) × Copied l.k l.choice l.initial.out l.out
