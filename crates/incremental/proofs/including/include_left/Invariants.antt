use Rattle.incremental.proofs.IncludingLaws.{LeftTo}
use Rattle.subsumption.specs.Tables.{pairs_of}
use Prim.Native.Nat.{◌-◌}
use Rattle.incremental.proofs.including.include_left.Given as goal

abbrev pub invariant-loop-m : goal.invariant-loop-m
invariant-loop-m live = LeftTo live.count live.inclusions live.done live.i live.l live.initial.square live.initial.covered live.m live.covered live.square live.changed

abbrev pub decreases-loop-m : goal.decreases-loop-m
decreases-loop-m l = pairs_of l.inclusions - l.m
