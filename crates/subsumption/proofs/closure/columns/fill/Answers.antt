use Rattle.subsumption.proofs.Columns.{fill-takes}
use Rattle.subsumption.proofs.closure.columns.fill.Goals as goal

pub returns : goal.returns
returns c = fill-takes c.take.ensures
