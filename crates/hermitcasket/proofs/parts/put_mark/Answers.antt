use Rattle.hermitcasket.proofs.MarkLines.{mark-link-room, wrote-mark-link, mark-name-room, wrote-mark-name}
use Rattle.hermitcasket.proofs.parts.put_mark.Goals as goal

pub put_link-requires : goal.put_link-requires
put_link-requires c = search mark-link-room

pub returns-then-link : goal.returns-then-link
returns-then-link c = search wrote-mark-link

pub put_pair-requires : goal.put_pair-requires
put_pair-requires c = search mark-name-room

pub returns : goal.returns
returns c = search wrote-mark-name
