use Rattle.numerals.proofs.PieceLaws.{printed-none}
use Rattle.hermitcasket_owl.proofs.CardLaws.{row_room, row_more, rows-done}
use Rattle.hermitcasket_owl.proofs.card.put_rows.Goals as goal

pub loop-i-init : goal.loop-i-init
loop-i-init c = printed-none _ _ _

pub put_row-end-requires : goal.put_row-end-requires
put_row-end-requires c = search row_room

pub loop-i-preserved : goal.loop-i-preserved
loop-i-preserved c = search row_more

pub returns : goal.returns
returns c = search rows-done
