use Rattle.incremental.proofs.ClosingLaws.{Rounding}
use Rattle.subsumption.proofs.Closing.{weight}
use Rattle.subsumption.specs.Inner.Settling.{choose_from}
use Rattle.subsumption.specs.Inner.Roles.{in_set}
use Rattle.subsumption.specs.Inner.Columns.{slack}
use lib.ListN.{length}
use mathlib.Core.Path.{◌≡◌}
use Prim.Native.Nat.{◌+◌}
use Rattle.incremental.proofs.closing.rounds.Given as goal

abbrev pub invariant-loop-busy : goal.invariant-loop-busy
invariant-loop-busy l = (length l.order ≡ 192) × Rounding l.concepts l.inclusions (in_set l.into) (choose_from l.atoms l.choices) l.initial.square l.square l.busy

abbrev pub decreases-loop-busy : goal.decreases-loop-busy
decreases-loop-busy l = slack l.square + weight l.busy
