use Rattle.subsumption.proofs.Blocks.{transposed}
use Rattle.subsumption.proofs.rows.transpose.Goals as goal

pub returns : goal.returns
returns c = transposed _ _ _ _ c.exchange-ones.ensures c.exchange-twos.ensures c.exchange.ensures
