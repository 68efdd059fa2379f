use mathlib.Core.Path.{refl}
use Prim.Native.Nat.{◌%◌}
use lib.ListN.{get_or}
use native.Mathlib.Omega.{arith}
use Rattle.subsumption.proofs.TwinKeys.{none_before, none_below, slots_same, slots-new, first-own}
use Rattle.subsumption.proofs.twins.first_place.Goals as goal

pub overflow_cast-from : goal.overflow_cast-from
overflow_cast-from c = omega (arith, c.type_inv.slots (get_or c.args.keys.now c.args.i 0 % 1021))

pub first_same-requires : goal.first_same-requires
first_same-requires c = record { from_le_i = omega arith; i_in_bounds = c.requires.i_in_bounds; by_index = none_before _ _ _ _ c.requires.slots refl c.if-from-i.true }

pub returns-then-from-i : goal.returns-then-from-i
returns-then-from-i c = record { first_same = c.first_same.ensures; slots_2 = slots_same _ _ _ _ c.requires.slots refl c.if-from-i.true }

pub returns : goal.returns
returns c = record { first_same = first-own _ _ _ (none_below _ _ _ _ c.requires.slots refl (omega arith)) (omega arith); slots_2 = slots-new _ _ _ _ c.requires.slots refl (omega arith) }
