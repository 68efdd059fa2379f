use Rattle.countermodel.proofs.MemberLaws.Stretching.{Stretching}
use Rattle.countermodel.proofs.membership.stretches.note_stretches.Given as goal

abbrev pub invariant-loop-p : goal.invariant-loop-p
invariant-loop-p l = Stretching l.rows l.ends l.p
