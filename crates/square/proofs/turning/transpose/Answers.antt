use Rattle.square.proofs.TurningLaws.{exchange-32, exchange-16, exchange-8, exchange-4, exchange-2, exchange-1, turned}
use Rattle.square.proofs.turning.transpose.Goals as goal

pub stage-requires : goal.stage-requires
stage-requires c = record { block_len = c.requires; exchange = exchange-32 }

pub stage-requires-2 : goal.stage-requires-2
stage-requires-2 c = record { block_len = c.stage.ensures.long; exchange = exchange-16 }

pub stage-requires-3 : goal.stage-requires-3
stage-requires-3 c = record { block_len = c.stage-2.ensures.long; exchange = exchange-8 }

pub stage-requires-4 : goal.stage-requires-4
stage-requires-4 c = record { block_len = c.stage-3.ensures.long; exchange = exchange-4 }

pub stage-requires-5 : goal.stage-requires-5
stage-requires-5 c = record { block_len = c.stage-4.ensures.long; exchange = exchange-2 }

pub stage-requires-6 : goal.stage-requires-6
stage-requires-6 c = record { block_len = c.stage-5.ensures.long; exchange = exchange-1 }

pub returns : goal.returns
returns c = turned c.stage.ensures c.stage-2.ensures c.stage-3.ensures c.stage-4.ensures c.stage-5.ensures c.stage-6.ensures
