use Prim.Native.Nat.{◌≤◌}
use Rattle.subsumption.specs.Inner.Links.{KindsTo}
use Rattle.subsumption.proofs.closure.links.note_kinds.Given as goal

abbrev pub invariant-loop-s : goal.invariant-loop-s
invariant-loop-s l = (l.s ≤ 100) × KindsTo l.into l.lines l.kinds l.s
