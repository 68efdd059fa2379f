use mathlib.Core.Path.{◌≡◌}
use lib.ListN.{length}
use Rattle.matching.proofs.ChosenLaws.Picked.{Writing}
use Rattle.matching.proofs.chosen.put_picked.Given as goal

abbrev pub invariant-loop-listed : goal.invariant-loop-listed
invariant-loop-listed l = (length l.out ≡ length l.initial.out) × Writing l.ids l.choice l.initial.out l.out l.rest l.listed
