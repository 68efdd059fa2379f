use Rattle.hermitcasket_owl.proofs.CardLaws.{entries-front, entries-back, wrote-entries}
use Rattle.hermitcasket_owl.proofs.card.put_entries.Goals as goal

pub put_line-a-requires : goal.put_line-a-requires
put_line-a-requires c = search entries-front

pub put_rows-requires : goal.put_rows-requires
put_rows-requires c = search entries-back

pub returns : goal.returns
returns c = search wrote-entries
