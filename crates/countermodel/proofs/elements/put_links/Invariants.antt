use Prim.Native.Nat.{◌+◌, ◌*◌, ◌≤◌}
use Rattle.subsumption.specs.Table.{marked}
use Rattle.countermodel.specs.Inner.Show.{links_of}
use Rattle.countermodel.proofs.PuttingLaws.{JoinedTo}
use Rattle.countermodel.proofs.elements.put_links.Given as goal

abbrev pub invariant-loop-i : goal.invariant-loop-i
invariant-loop-i l =
    (l.end ≤ l.at + l.i * 76800) × JoinedTo (links_of l.concepts l.roles (marked l.table)) l.initial.out l.at l.i l.end l.out
