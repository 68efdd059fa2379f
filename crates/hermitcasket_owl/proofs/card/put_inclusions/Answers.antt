use Rattle.hermitcasket_owl.proofs.CardLaws.{inclusions-front, inclusions-back, wrote-inclusions}
use Rattle.hermitcasket_owl.proofs.card.put_inclusions.Goals as goal

pub put_line-a-requires : goal.put_line-a-requires
put_line-a-requires c = search inclusions-front

pub put_pairs-requires : goal.put_pairs-requires
put_pairs-requires c = search inclusions-back

pub returns : goal.returns
returns c = search wrote-inclusions
