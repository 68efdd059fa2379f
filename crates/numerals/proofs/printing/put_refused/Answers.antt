use Rattle.numerals.specs.Printing.{number_text, refused_line, number_key, place_key, refused_text}
use Rattle.numerals.proofs.WriteLaws.{room-1, room-2, room-3, wrote-three}
use Rattle.numerals.proofs.printing.put_refused.Goals as goal

pub put_bytes-a-requires : goal.put_bytes-a-requires
unfolding refused_text
put_bytes-a-requires c = room-1 c.args.out.now (0) (refused_line) (number_text number_key c.args.code.number) (number_text place_key c.args.code.place) c.requires

pub put_line-b-requires : goal.put_line-b-requires
unfolding refused_text
put_line-b-requires c = room-2 _ _ (refused_line) (number_text number_key c.args.code.number) (number_text place_key c.args.code.place) c.requires _ _ c.put_bytes-a.ensures

pub put_line-requires : goal.put_line-requires
unfolding refused_text
put_line-requires c = room-3 _ _ (refused_line) (number_text number_key c.args.code.number) (number_text place_key c.args.code.place) c.requires _ _ c.put_bytes-a.ensures _ _ c.put_line-b.ensures

pub returns : goal.returns
unfolding refused_text
returns c = wrote-three _ _ (refused_line) (number_text number_key c.args.code.number) (number_text place_key c.args.code.place) c.requires _ _ c.put_bytes-a.ensures _ _ c.put_line-b.ensures _ _ c.put_line.ensures
