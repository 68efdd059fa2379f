use Prim.Native.Nat.{◌≤◌}
use mathlib.Core.Path.{◌≡◌}
use lib.ListN.{length}
use Rattle.subsumption.specs.Inner.Atoms.{mark_at}
use Rattle.subsumption.proofs.Lists.{ListedTo}
use Rattle.subsumption.proofs.atoms.list_marks.Given as goal

abbrev pub invariant-loop-p : goal.invariant-loop-p
invariant-loop-p l = (l.p ≤ l.count) × (length l.out ≡ length l.initial.out) × ListedTo (mark_at l.marks) l.initial.out l.out l.listed l.p
