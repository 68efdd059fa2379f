use Rattle.subsumption.proofs.Columns.{flow-takes}
use Rattle.subsumption.proofs.closure.columns.flow.Goals as goal

pub returns : goal.returns
returns c = flow-takes _ c.take.ensures
