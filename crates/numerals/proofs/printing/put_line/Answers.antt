use Rattle.numerals.proofs.WriteLaws.{room-1, room-2, room-3, wrote-three}
use mathlib.Core.List.{[], ◌∷◌}
use Rattle.numerals.specs.Digits.{digits}
use Rattle.numerals.specs.Printing.{number_text}
use Rattle.numerals.proofs.printing.put_line.Goals as goal

pub put_bytes-a-requires : goal.put_bytes-a-requires
unfolding number_text
put_bytes-a-requires c = room-1 c.args.out.now c.args.at c.args.key.now (digits c.args.n) (10 ∷ []) c.requires

pub put_number-b-requires : goal.put_number-b-requires
unfolding number_text
put_number-b-requires c = room-2 _ _ c.args.key.now (digits c.args.n) (10 ∷ []) c.requires _ _ c.put_bytes-a.ensures

pub put_bytes-requires : goal.put_bytes-requires
unfolding number_text
put_bytes-requires c = room-3 _ _ c.args.key.now (digits c.args.n) (10 ∷ []) c.requires _ _ c.put_bytes-a.ensures _ _ c.put_number-b.ensures

pub returns : goal.returns
unfolding number_text
returns c = wrote-three _ _ c.args.key.now (digits c.args.n) (10 ∷ []) c.requires _ _ c.put_bytes-a.ensures _ _ c.put_number-b.ensures _ _ c.put_bytes.ensures
