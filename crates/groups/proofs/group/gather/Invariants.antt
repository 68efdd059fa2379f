use lib.ListN.{get_or}
use Rattle.groups.specs.Inner.Group.{set_at}
use Rattle.groups.proofs.GroupLaws.{Gathered}
use Rattle.groups.proofs.group.gather.Given as goal

abbrev pub invariant-loop-n : goal.invariant-loop-n
invariant-loop-n l = Gathered (set_at (λ i. get_or l.sets i 0) l.questions) l.reached l.n l.group
