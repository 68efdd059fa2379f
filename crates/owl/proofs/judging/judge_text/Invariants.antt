use Prim.Native.Nat.{◌-◌}
use lib.ListN.{length}
use Rattle.owl.proofs.JudgingLaws.{Judging}
use Rattle.owl.proofs.judging.judge_text.Given as goal

abbrev pub invariant-loop-at : goal.invariant-loop-at
invariant-loop-at l = Judging l.text l.reader l.at l.frames l.pending l.rows l.inclusions

abbrev pub decreases-loop-at : goal.decreases-loop-at
decreases-loop-at l = length l.text - l.at
