use Rattle.matching.proofs.ChosenLaws.Faults.{earlier-known, earlier-kept, earlier-other}
use Rattle.matching.proofs.chosen.refused_with.Goals as goal

pub returns-then-known : goal.returns-then-known
returns-then-known c = search earlier-known

pub returns-then-code-eq1 : goal.returns-then-code-eq1
returns-then-code-eq1 c = search earlier-kept

pub returns : goal.returns
returns c = search earlier-other
