use Prim.Native.Nat.{◌+◌, ◌*◌}
use lib.ListN.{get_or}
use Rattle.countermodel.specs.Rows.{rows_of}
use Rattle.countermodel.proofs.RowMembers.{NamedAt}
use Rattle.countermodel.proofs.MemberLaws.Scanning.{Unmet}
use Rattle.countermodel.proofs.membership.walk.bears.Given as goal

abbrev pub invariant-loop-p : goal.invariant-loop-p
invariant-loop-p l = Unmet (NamedAt l.rows l.element l.name) (get_or l.ends (l.element * 4) 0) (get_or l.ends (l.element * 4 + 1) 0) (rows_of l.rows) l.p
