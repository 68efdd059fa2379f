use Prim.Native.Nat.{◌-◌}
use native.Mathlib.Omega.{arith}
use Rattle.allowance.proofs.PlaceLaws.{pair-low}
use Rattle.allowance.proofs.place.Place.is_taken.Goals as goal

pub offset_bounds-low-p : goal.offset_bounds-low-p
offset_bounds-low-p c = omega (arith, pair-low _ (c.args.self.settled - 1) c.requires.0 (omega arith))

pub bounds-low-p : goal.bounds-low-p
bounds-low-p c = (pair-low _ (c.args.self.settled - 1) c.requires.0 (omega arith)).0

pub has_bit-requires : goal.has_bit-requires
has_bit-requires c = (pair-low _ (c.args.self.settled - 1) c.requires.0 (omega arith)).1
