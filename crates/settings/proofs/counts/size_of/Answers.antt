use native.Mathlib.Omega.{arith}
use Rattle.settings.proofs.SizeLaws.{ones-size}
use Rattle.settings.proofs.counts.size_of.Goals as goal

pub returns : goal.returns
returns c = ones-size c.args.choice (omega (arith, c.well_formed))
