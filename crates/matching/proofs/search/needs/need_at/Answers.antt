use mathlib.Core.Path.{refl}
use mathlib.Core.Logic.{inl}
use native.Mathlib.Omega.{arith}
use Rattle.matching.proofs.SearchLaws.Needs.{need-found}
use Rattle.matching.proofs.search.needs.need_at.Goals as goal

pub returns-then-wanted-met-ne0 : goal.returns-then-wanted-met-ne0
returns-then-wanted-met-ne0 c = inl refl

pub returns-then-wanted-eq0 : goal.returns-then-wanted-eq0
returns-then-wanted-eq0 c = inl refl

pub returns-then-is_within : goal.returns-then-is_within
returns-then-is_within c = need-found _ _ c.args.high _ _ _ (omega arith) c.if-wanted-met-ne0.false _ _ c.is_within.result c.is_within-2.result c.nogood_at-nogood.ensures.0 c.nogood_at-nogood.ensures.1 c.is_within.ensures c.is_within-2.ensures c.if-is_within.true

pub returns : goal.returns
returns c = inl refl
