use Rattle.numerals.proofs.PieceLaws.{printed-none}
use Rattle.hermitcasket_owl.proofs.CardLaws.{pair-room, pair-more, pairs-done}
use Rattle.hermitcasket_owl.proofs.card.put_pairs.Goals as goal

pub loop-i-init : goal.loop-i-init
loop-i-init c = printed-none _ _ _

pub put_pair-end-requires : goal.put_pair-end-requires
put_pair-end-requires c = search pair-room

pub loop-i-preserved : goal.loop-i-preserved
loop-i-preserved c = search pair-more

pub returns : goal.returns
returns c = search pairs-done
