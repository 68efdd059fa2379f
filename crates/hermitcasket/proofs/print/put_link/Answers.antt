use Rattle.hermitcasket.proofs.MarkLines.{link-room-1, link-room-2, link-room-3, wrote-link}
use Rattle.hermitcasket.proofs.print.put_link.Goals as goal

pub put_bytes-x-requires : goal.put_bytes-x-requires
put_bytes-x-requires c = search link-room-1

pub put_number-y-requires : goal.put_number-y-requires
put_number-y-requires c = search link-room-2

pub put_pair-requires : goal.put_pair-requires
put_pair-requires c = search link-room-3

pub returns : goal.returns
returns c = search wrote-link
