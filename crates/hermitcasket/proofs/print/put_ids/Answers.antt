use Rattle.numerals.proofs.PieceLaws.{printed-none, piece-room, printed-more}
use Rattle.hermitcasket.proofs.FillLaws.{ids_next, ids-done}
use Rattle.hermitcasket.proofs.print.put_ids.Goals as goal

pub loop-i-init : goal.loop-i-init
loop-i-init c = printed-none _ _ _

pub put_id-end-requires : goal.put_id-end-requires
put_id-end-requires c = search (piece-room, ids_next)

pub loop-i-preserved : goal.loop-i-preserved
loop-i-preserved c = search (printed-more, ids_next)

pub returns : goal.returns
returns c = search ids-done
