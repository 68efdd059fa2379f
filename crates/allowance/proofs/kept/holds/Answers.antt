use mathlib.Core.Bool.{true, false}
use Rattle.allowance.proofs.KeptLaws.{tried-known}
use Rattle.allowance.proofs.kept.holds.Goals as goal

pub is_known-requires : goal.is_known-requires
is_known-requires c = (c.requires.scratch_len.1, c.requires.choice_len)

pub returns-then-is_known : goal.returns-then-is_known
returns-then-is_known c = tried-known _ _ _ _ _ true c.is_known.result c.is_known.ensures c.if-is_known.true

pub is_known-requires-2 : goal.is_known-requires-2
is_known-requires-2 c = (c.requires.scratch_len.1, c.requires.choice_len)

pub returns-then-is_known-2 : goal.returns-then-is_known-2
returns-then-is_known-2 c = tried-known _ _ _ _ _ false c.is_known-2.result c.is_known-2.ensures c.if-is_known-2.true

pub returns : goal.returns
returns c = c.test.ensures
