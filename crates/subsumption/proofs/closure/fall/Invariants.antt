use Prim.Native.Nat.{ℕ, ◌<◌, ◌≤◌}
use mathlib.Core.Path.{◌≡◌}
use lib.ListN.{length}
use Rattle.subsumption.specs.Tables.{count_of}
use Rattle.subsumption.specs.Inner.Settling.{Descended, choose_from}
use Rattle.subsumption.specs.Inner.Closure.{SettlePass}
use Rattle.subsumption.proofs.closure.fall.Given as goal

abbrev pub invariant-loop-j : goal.invariant-loop-j
invariant-loop-j live = (live.j ≤ count_of live.concepts) × (length live.columns ≡ 576) × SettlePass live.concepts (choose_from live.atoms live.assignment) (λ l. (k : ℕ) → live.j ≤ k → k < count_of live.concepts → Descended live.concepts (choose_from live.atoms live.assignment) k l) live.initial.columns live.columns live.changed
