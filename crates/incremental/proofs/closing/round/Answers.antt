use Rattle.subsumption.proofs.Settling.{ready-settleable}
use Rattle.subsumption.proofs.Linking.{ready-inner}
use Rattle.incremental.proofs.ClosingLaws.{ready-includable, round-pass}
use Rattle.incremental.proofs.closing.round.Goals as goal

-- src/closing.rt:56:9
pub close_rows-a-requires : goal.close_rows-a-requires
close_rows-a-requires c = record { settleable = ready-settleable c.requires.ready; pairs = ready-includable c.requires.ready c.requires.inclusions_bound; chain = c.requires.chain; idle = c.requires.idle; order_len = c.requires.order_len; square = c.requires.square }

-- src/closing.rt:66:9
pub rise-b-requires : goal.rise-b-requires
rise-b-requires c = record { settleable = ready-settleable c.requires.ready; pairs = ready-includable c.requires.ready c.requires.inclusions_bound; inner = ready-inner c.requires.ready; existentials = c.requires.existentials; square = c.close_rows-a.ensures.square }

-- src/closing.rt:32:1
pub returns : goal.returns
returns c = round-pass _ _ _ _ c.close_rows-a.ensures c.rise-b.ensures
