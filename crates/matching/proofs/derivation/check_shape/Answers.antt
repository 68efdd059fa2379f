use Rattle.matching.proofs.DerivationLaws.Lines.{shape-empty, shape-ragged, shape-whole}
use Rattle.matching.proofs.derivation.check_shape.Goals as goal

pub returns-then-lines-eq0 : goal.returns-then-lines-eq0
returns-then-lines-eq0 c = search shape-empty

pub returns-then-lines-ne0 : goal.returns-then-lines-ne0
returns-then-lines-ne0 c = search shape-ragged

pub returns : goal.returns
returns c = search shape-whole
