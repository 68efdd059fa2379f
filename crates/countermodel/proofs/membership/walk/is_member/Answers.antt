use Rattle.countermodel.proofs.MemberLaws.Memo.{remembers-none}
use Rattle.countermodel.proofs.membership.walk.is_member.Goals as goal

pub member_at-requires : goal.member_at-requires
member_at-requires c = record { walkable = c.requires.walkable; stretches = c.note_stretches.ensures; remembers = remembers-none _ _ _ _; element_bound = c.requires.element_bound }
