use Prim.Native.Nat.{◌≤◌}
use mathlib.Core.Path.{◌≡◌}
use lib.ListN.{length}
use Rattle.subsumption.specs.Inner.Atoms.{marked_ids}
use Rattle.subsumption.proofs.atoms.count_marks.Given as goal

abbrev pub invariant-loop-p : goal.invariant-loop-p
invariant-loop-p l = (l.p ≤ l.count) × (l.marked ≡ length (marked_ids l.marks l.p))
