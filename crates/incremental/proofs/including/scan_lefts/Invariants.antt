use Rattle.incremental.proofs.IncludingLaws.{ScanTo}
use Prim.Native.Nat.{◌-◌}
use Rattle.incremental.proofs.including.scan_lefts.Given as goal

abbrev pub invariant-loop-l : goal.invariant-loop-l
invariant-loop-l live = ScanTo live.count live.inclusions live.done live.i live.from live.initial.square live.initial.covered live.l live.covered live.square live.changed

abbrev pub decreases-loop-l : goal.decreases-loop-l
decreases-loop-l live = 192 - live.l
