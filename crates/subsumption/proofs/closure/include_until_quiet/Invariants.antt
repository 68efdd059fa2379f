use Prim.Native.Nat.{◌+◌}
use mathlib.Core.Path.{◌≡◌}
use lib.ListN.{length}
use Rattle.subsumption.specs.Inner.Columns.{slack}
use Rattle.subsumption.proofs.Closing.{Quieting, weight}
use Rattle.subsumption.proofs.closure.include_until_quiet.Given as goal

abbrev pub invariant-loop-busy : goal.invariant-loop-busy
invariant-loop-busy l = (length l.columns ≡ 576) × Quieting l.inclusions l.initial.columns l.columns l.changed l.busy

abbrev pub decreases-loop-busy : goal.decreases-loop-busy
decreases-loop-busy l = slack l.columns + weight l.busy
