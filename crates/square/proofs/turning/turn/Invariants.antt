use Rattle.square.proofs.TurningLaws.{TurnedTo}
use lib.ListN.{length}
use mathlib.Core.Path.{◌≡◌}
use Rattle.square.proofs.turning.turn.Given as goal

abbrev pub invariant-loop-n : goal.invariant-loop-n
invariant-loop-n l = (length l.block ≡ 64) × TurnedTo l.initial.square l.n l.square
