use mathlib.Core.List.{[], ◌∷◌}
use mathlib.Core.Bool.{false}
use Rattle.numerals.proofs.WriteLaws.{room-1, room-2, room-3, wrote-three}
use Rattle.hermitcasket.specs.Printing.{fill_key, ids_text, fill_text}
use Rattle.hermitcasket.proofs.print.put_fill.Goals as goal

pub put_bytes-a-requires : goal.put_bytes-a-requires
unfolding fill_text
put_bytes-a-requires c = room-1 c.args.out.now c.args.at (fill_key) (ids_text false c.args.ids.now) (10 ∷ []) c.requires

pub put_ids-b-requires : goal.put_ids-b-requires
unfolding fill_text
put_ids-b-requires c = room-2 _ _ (fill_key) (ids_text false c.args.ids.now) (10 ∷ []) c.requires _ _ c.put_bytes-a.ensures

pub put_bytes-requires : goal.put_bytes-requires
unfolding fill_text
put_bytes-requires c = room-3 _ _ (fill_key) (ids_text false c.args.ids.now) (10 ∷ []) c.requires _ _ c.put_bytes-a.ensures _ _ c.put_ids-b.ensures

pub returns : goal.returns
unfolding fill_text
returns c = wrote-three _ _ (fill_key) (ids_text false c.args.ids.now) (10 ∷ []) c.requires _ _ c.put_bytes-a.ensures _ _ c.put_ids-b.ensures _ _ c.put_bytes.ensures
