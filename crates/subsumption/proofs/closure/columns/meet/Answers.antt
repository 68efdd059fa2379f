use Rattle.subsumption.proofs.Columns.{meet-takes}
use Rattle.subsumption.proofs.closure.columns.meet.Goals as goal

pub returns : goal.returns
returns c = meet-takes _ _ c.take.ensures
