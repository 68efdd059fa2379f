use Rattle.hermitcasket_owl.proofs.CardLaws.{card-room-1, card-room-2, card-room-3, card-room-4, wrote-card}
use Rattle.hermitcasket_owl.proofs.card.put_card.Goals as goal

pub put_line-a-requires : goal.put_line-a-requires
put_line-a-requires c = search card-room-1

pub put_entries-b-requires : goal.put_entries-b-requires
put_entries-b-requires c = search card-room-2

pub put_inclusions-c-requires : goal.put_inclusions-c-requires
put_inclusions-c-requires c = search card-room-3

pub put_line-requires : goal.put_line-requires
put_line-requires c = search card-room-4

pub returns : goal.returns
returns c = search wrote-card
