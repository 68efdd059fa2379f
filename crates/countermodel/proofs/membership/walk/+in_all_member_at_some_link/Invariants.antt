use Prim.Native.Nat.{◌+◌, ◌*◌}
use lib.ListN.{get_or}
use Rattle.countermodel.specs.Rows.{rows_of}
use Rattle.countermodel.specs.Inner.Membership.{Remembers}
use Rattle.countermodel.proofs.MemberLaws.Scanning.{Unmet}
use Rattle.countermodel.proofs.MemberLaws.Weights.{weight}
use Rattle.countermodel.proofs.MemberLaws.Walking.{Leads, Sofar}
use Rattle.countermodel.proofs.membership.walk.+in_all_member_at_some_link.Given as goal

abbrev pub decreases-in_all : goal.decreases-in_all
decreases-in_all l = 384

abbrev pub invariant-in_all-loop-q : goal.invariant-in_all-loop-q
invariant-in_all-loop-q l =
    Sofar l.concepts l.ids l.assignment l.rows l.element l.choice l.q × Remembers l.concepts l.ids l.assignment l.rows l.memo

abbrev pub decreases-member_at : goal.decreases-member_at
decreases-member_at l = 2 * weight l.concepts.now l.id + 1

abbrev pub decreases-some_link : goal.decreases-some_link
decreases-some_link l = 2 * weight l.concepts.now l.inner + 2

abbrev pub invariant-some_link-loop-p : goal.invariant-some_link-loop-p
invariant-some_link-loop-p l =
    Unmet (Leads l.concepts l.ids l.assignment l.rows l.element l.role l.inner) (get_or l.ends (l.element * 4 + 2) 0) (get_or l.ends (l.element * 4 + 3) 0) (rows_of l.rows) l.p
    × Remembers l.concepts l.ids l.assignment l.rows l.memo
