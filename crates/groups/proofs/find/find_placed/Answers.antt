use Rattle.groups.proofs.FindLaws.{finds-group}
use Rattle.groups.proofs.find.find_placed.Goals as goal

pub returns : goal.returns
returns c = finds-group _ _ _ _ c.args.out.now _ _ c.requires.accepted.passed c.requires.m_bound c.group_of-group.ensures c.find_known.ensures
