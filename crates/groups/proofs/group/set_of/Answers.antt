use Rattle.groups.proofs.GroupLaws.{left-read, right-read, set-read}
use Rattle.groups.proofs.group.set_of.Goals as goal

pub bounds-sets-pair : goal.bounds-sets-pair
bounds-sets-pair c = left-read _ _ _ c.pair_at-pair.ensures _ c.requires.known c.requires.m_bound

pub bounds-sets-pair-2 : goal.bounds-sets-pair-2
bounds-sets-pair-2 c = right-read _ _ _ c.pair_at-pair.ensures _ c.requires.known c.requires.m_bound

pub returns : goal.returns
returns c = set-read _ _ _ c.pair_at-pair.ensures c.args.sets.now
