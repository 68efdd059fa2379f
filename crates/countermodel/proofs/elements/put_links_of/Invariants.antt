use Prim.Native.Nat.{◌+◌, ◌*◌, ◌≤◌}
use Rattle.subsumption.specs.Table.{marked}
use Rattle.countermodel.specs.Inner.Show.{ForRoles, links_by}
use Rattle.countermodel.proofs.PuttingLaws.{JoinedTo}
use Rattle.countermodel.proofs.elements.put_links_of.Given as goal

abbrev pub invariant-loop-s : goal.invariant-loop-s
invariant-loop-s l =
    (l.end ≤ l.at + l.s * 768)
    × ForRoles l.into (λ roles. JoinedTo (links_by l.concepts roles (marked l.table) l.i) l.initial.out l.at l.s l.end l.out)
