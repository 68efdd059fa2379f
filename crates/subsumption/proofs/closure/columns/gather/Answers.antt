use Rattle.subsumption.proofs.Choices.{gather-takes}
use Rattle.subsumption.proofs.closure.columns.gather.Goals as goal

pub returns : goal.returns
returns c = gather-takes _ _ _ _ _ _ c.common-words.ensures.common c.common-words.ensures.common_2 c.common-words.ensures.common_3 c.take.ensures
