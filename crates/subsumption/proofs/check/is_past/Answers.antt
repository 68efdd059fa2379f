use Rattle.subsumption.proofs.Accepted.{bits-past}
use Rattle.subsumption.proofs.check.is_past.Goals as goal

pub returns-then-atoms-ne-ATOMS : goal.returns-then-atoms-ne-ATOMS
returns-then-atoms-ne-ATOMS c = bits-past c.args.choice c.args.atoms
