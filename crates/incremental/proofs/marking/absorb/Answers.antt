use native.Mathlib.Omega.{arith}
use Rattle.subsumption.proofs.Columns.{absorbs}
use Rattle.incremental.proofs.marking.absorb.Goals as goal

pub returns : goal.returns
returns c = absorbs c.args.square.now c.args.at c.args.add (omega arith) (c.slice_known-1.given c.args.at).fits
