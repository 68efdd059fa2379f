use Prim.Native.Nat.{◌+◌, ◌-◌, ◌*◌, ◌≤◌}
use mathlib.Core.Path.{◌≡◌}
use lib.ListN.{length}
use Rattle.matching.specs.Inner.Search.Widen.{Mixed, StillFails}
use Rattle.matching.proofs.search.widen.widen_runs.Given as goal

abbrev pub invariant-loop-from : goal.invariant-loop-from
invariant-loop-from l = (length l.scratch ≡ 16977) × Mixed l.initial.failing l.target l.failing × StillFails l.sets l.problem l.m l.initial.failing l.target l.failing × (1 ≤ l.size) × (l.size ≤ 512)

abbrev pub decreases-loop-from : goal.decreases-loop-from
decreases-loop-from l = (512 - l.from) * 1024 + l.size
