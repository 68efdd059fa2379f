use Rattle.hermitcasket.proofs.LineLaws.{rest-whole}
use Rattle.hermitcasket.proofs.lines.behind.Goals as goal

pub returns : goal.returns
returns c = search rest-whole
