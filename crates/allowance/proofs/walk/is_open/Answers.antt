use mathlib.Core.Path.{refl}
use native.Mathlib.Omega.{arith}
use Rattle.allowance.proofs.WalkLaws.{outside-shut, over-shut, fewer-shut, more-decides}
use Rattle.allowance.proofs.walk.is_open.Goals as goal

pub returns-then-not-is_within : goal.returns-then-not-is_within
returns-then-not-is_within c = record { kept_len = c.requires.scratch_len.1; opened_by = outside-shut _ _ _ _ _ _ c.is_within.result c.is_within.ensures (c.if-not-is_within.true) }

pub returns-then-not-is_few : goal.returns-then-not-is_few
returns-then-not-is_few c = record { kept_len = c.requires.scratch_len.1; opened_by = over-shut _ _ _ _ _ _ _ refl c.is_few.result c.is_few.ensures (c.if-not-is_few.true) }

pub returns-then-not-holds : goal.returns-then-not-holds
returns-then-not-holds c = record { kept_len = omega arith; opened_by = fewer-shut _ _ _ _ _ _ _ c.is_within.result c.is_within.ensures (c.if-not-is_within.false) c.holds.result c.holds.ensures (c.if-not-holds.true) }

pub holds-requires-2 : goal.holds-requires-2
holds-requires-2 c = record { shaped = c.requires.shaped; scratch_len = (omega arith, omega arith); choice_len = c.requires.permitted_len.2 }

pub returns : goal.returns
returns c = record { kept_len = omega arith; opened_by = more-decides _ _ _ _ _ _ _ c.is_within.result c.is_within.ensures (c.if-not-is_within.false) _ refl c.is_few.result c.is_few.ensures (c.if-not-is_few.false) _ c.holds.result c.holds.ensures (c.if-not-holds.false) c.holds-2.result c.holds-2.ensures }
