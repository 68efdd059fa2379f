use Rattle.numerals.proofs.WriteLaws.{pair-room-1, pair-room-2, pair-room-3, wrote-pair}
use Rattle.numerals.proofs.printing.put_pair.Goals as goal

pub put_bytes-x-requires : goal.put_bytes-x-requires
put_bytes-x-requires c = search pair-room-1

pub put_number-y-requires : goal.put_number-y-requires
put_number-y-requires c = search pair-room-2

pub put_line-requires : goal.put_line-requires
put_line-requires c = search pair-room-3

pub returns : goal.returns
returns c = search wrote-pair
