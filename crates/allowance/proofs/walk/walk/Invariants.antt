use Prim.Native.Nat.{◌-◌, ◌≤◌}
use mathlib.Core.Path.{◌≡◌}
use lib.ListN.{length}
use Rattle.allowance.proofs.OrderLaws.{ahead}
use Rattle.allowance.proofs.WalkLaws.{read_off, Standing, Goes}
use Rattle.allowance.proofs.walk.walk.Given as goal

abbrev pub invariant-loop-permitted : goal.invariant-loop-permitted
invariant-loop-permitted l =
    Standing l.count l.pairs l.permitted l.place.low l.place.high l.place.settled × (l.met ≤ l.allowance) × (length l.scratch ≡ 16977) × (length l.kept ≡ 516)
    × Goes l.sets l.problem l.permitted l.count l.pairs l.kept l.place.low l.place.settled l.met

abbrev pub decreases-loop-permitted : goal.decreases-loop-permitted
decreases-loop-permitted l = ahead (l.pairs - l.place.settled) (read_off l.count l.place.low l.place.settled)
