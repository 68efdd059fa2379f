use mathlib.Core.Path.{◌≡◌}
use Prim.Native.Nat.{◌*◌, ◌≤◌}
use lib.ListN.{length}
use Rattle.allowance.proofs.PlaceLaws.{Climbs}
use Rattle.allowance.proofs.place.Place.next_sibling.Given as goal

abbrev pub invariant-loop-at : goal.invariant-loop-at
invariant-loop-at l =
    (length l.at.low ≡ 8) × (length l.at.high ≡ 8) × (l.at.settled ≤ 8 * l.count)
    × Climbs l.count l.permitted l.initial.at.low l.initial.at.high l.initial.at.settled l.at.low l.at.high l.at.settled

abbrev pub decreases-loop-at : goal.decreases-loop-at
decreases-loop-at l = l.at.settled
