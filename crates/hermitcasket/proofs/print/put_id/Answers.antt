use Rattle.hermitcasket.proofs.FillLaws.{comma-room, later-room, wrote-later, first-room, wrote-first}
use Rattle.hermitcasket.proofs.print.put_id.Goals as goal

pub put_bytes-a-requires : goal.put_bytes-a-requires
put_bytes-a-requires c = search comma-room

pub put_number-requires : goal.put_number-requires
put_number-requires c = search later-room

pub returns-then-later : goal.returns-then-later
returns-then-later c = search wrote-later

pub put_number-requires-2 : goal.put_number-requires-2
put_number-requires-2 c = search first-room

pub returns : goal.returns
returns c = search wrote-first
