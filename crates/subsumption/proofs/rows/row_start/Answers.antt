use mathlib.Core.Path.{refl}
use Rattle.subsumption.specs.Table.{row_start}
use Rattle.subsumption.proofs.rows.row_start.Goals as goal

pub returns : goal.returns
unfolding row_start
returns c = refl
