use Prim.Native.Nat.{◌+◌}
use mathlib.Core.Path.{refl}
use mathlib.Core.List.{append_assoc}
use lib.ListN.{length}
use native.Mathlib.Omega.{arith}
use borrow.Rule.Slice.PartMut.{Post-is}
use Rattle.numerals.specs.Inner.Printing.{placed}
use Rattle.numerals.proofs.printing.put_bytes.Goals as goal

pub returns : goal.returns
unfolding placed
returns c =
    let behind = Post-is c.args.at (c.args.at + length c.args.bytes.now) c.args.out.now (omega arith) in
    record { place = refl; buffer = rw (c.copy_from_slice.ensures.after, append_assoc, behind) refl }
