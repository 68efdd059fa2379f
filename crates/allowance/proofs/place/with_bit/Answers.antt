use mathlib.Core.Path.{sym, ◌∙◌, subst}
use native.Mathlib.Omega.{arith}
use Rattle.matching.specs.Inner.Search.Pairs.{Changed}
use Rattle.allowance.proofs.PlaceLaws.{pair-low, unchanged}
use Rattle.allowance.proofs.place.with_bit.Goals as goal

pub with_pair-requires : goal.with_pair-requires
with_pair-requires c = record { set_len = c.requires.set_len; k_bound = pair-low _ _ c.requires.count_bound.0 c.requires.count_bound.1 }

pub returns-then-taken : goal.returns-then-taken
returns-then-taken c = subst (Changed _ _ _ _) (sym c.if-taken.true) c.with_pair.ensures

pub offset_bounds-set-k : goal.offset_bounds-set-k
offset_bounds-set-k c = omega (arith, pair-low _ _ c.requires.count_bound.0 c.requires.count_bound.1)

pub bounds-set-k : goal.bounds-set-k
bounds-set-k c = (pair-low _ _ c.requires.count_bound.0 c.requires.count_bound.1).0

pub has_bit-requires : goal.has_bit-requires
has_bit-requires c = (pair-low _ _ c.requires.count_bound.0 c.requires.count_bound.1).1

pub without_pair-requires : goal.without_pair-requires
without_pair-requires c = record { set_len = c.requires.set_len; k_bound = pair-low _ _ c.requires.count_bound.0 c.requires.count_bound.1; q_value = sym c.has_bit.ensures ∙ c.if-has_bit.true }

pub returns-then-has_bit : goal.returns-then-has_bit
returns-then-has_bit c = subst (Changed _ _ _ _) (sym c.if-taken.false) c.without_pair.ensures

pub returns : goal.returns
returns c = unchanged _ _ _ _ c.requires.set_len (sym c.has_bit.ensures ∙ c.if-has_bit.false ∙ sym c.if-taken.false)
