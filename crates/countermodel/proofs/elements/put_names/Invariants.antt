use Prim.Native.Nat.{◌*◌, ◌≤◌}
use Rattle.subsumption.specs.Table.{marked}
use Rattle.countermodel.specs.Inner.Show.{names_of}
use Rattle.countermodel.proofs.PuttingLaws.{JoinedTo}
use Rattle.countermodel.proofs.elements.put_names.Given as goal

abbrev pub invariant-loop-i : goal.invariant-loop-i
invariant-loop-i l = (l.end ≤ l.i * 4000) × JoinedTo (names_of l.concepts (marked l.table)) l.initial.out 0 l.i l.end l.out
