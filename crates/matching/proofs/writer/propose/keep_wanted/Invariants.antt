use Prim.Native.Nat.{◌≤◌}
use Rattle.matching.proofs.writer.propose.keep_wanted.Given as goal

abbrev pub invariant-loop-k : goal.invariant-loop-k
invariant-loop-k l = l.k ≤ l.to
