use Rattle.matching.proofs.FindLaws.{full-atoms}
use Rattle.matching.proofs.find.all_atoms.Goals as goal

pub returns : goal.returns
returns c = full-atoms _ _ c.ones-full.ensures
