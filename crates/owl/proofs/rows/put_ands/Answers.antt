use Rattle.owl.proofs.RowLaws.{pairing-none, pairing-room, pairing-more, pairing-done}
use Rattle.owl.proofs.rows.put_ands.Goals as goal

pub loop-m-init : goal.loop-m-init
loop-m-init c = search pairing-none

pub put_row-requires : goal.put_row-requires
put_row-requires c = search pairing-room

pub loop-m-preserved : goal.loop-m-preserved
loop-m-preserved c = search pairing-more

pub returns : goal.returns
returns c = search pairing-done
