use Rattle.allowance.proofs.KeptLaws.{follows-alike, follows-unlike}
use Rattle.allowance.proofs.kept.follows.Goals as goal

pub is_within-requires : goal.is_within-requires
is_within-requires c = c.requires

pub returns-then-right-passed : goal.returns-then-right-passed
returns-then-right-passed c = follows-alike c.is_within.result _ _ _ _ c.if-right-passed.true c.is_within.ensures

pub is_within-requires-2 : goal.is_within-requires-2
is_within-requires-2 c = (c.requires.1, c.requires.0)

pub returns : goal.returns
returns c = follows-unlike c.is_within-2.result _ _ _ _ c.if-right-passed.false c.is_within-2.ensures
