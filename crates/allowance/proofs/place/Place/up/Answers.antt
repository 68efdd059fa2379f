use Prim.Native.Nat.{◌-◌}
use mathlib.Core.Path.{refl, subst}
use native.Mathlib.Omega.{arith}
use Rattle.matching.specs.Inner.Search.Pairs.{Changed}
use Rattle.allowance.proofs.PlaceLaws.{pair-low}
use Rattle.allowance.proofs.place.Place.up.Goals as goal

pub offset_bounds-permitted-p : goal.offset_bounds-permitted-p
offset_bounds-permitted-p c = omega (arith, pair-low _ (c.args.self.settled - 1) c.requires.count_bound.0 (omega arith))

pub bounds-permitted-p : goal.bounds-permitted-p
bounds-permitted-p c = (pair-low _ (c.args.self.settled - 1) c.requires.count_bound.0 (omega arith)).0

pub has_bit-may-requires : goal.has_bit-may-requires
has_bit-may-requires c = (pair-low _ (c.args.self.settled - 1) c.requires.count_bound.0 (omega arith)).1

pub returns : goal.returns
returns c = record { settled_value = refl; changed = c.with_bit-below.ensures; changed_2 = subst (Changed _ _ _ _) c.has_bit-may.ensures c.with_bit-above.ensures }
