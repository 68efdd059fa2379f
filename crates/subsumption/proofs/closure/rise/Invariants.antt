use Prim.Native.Nat.{ℕ, ◌<◌, ◌≤◌}
use mathlib.Core.Path.{◌≡◌}
use lib.ListN.{length}
use Rattle.subsumption.specs.Inner.Settling.{Ascended, choose_from}
use Rattle.subsumption.specs.Inner.Links.{LinkedTo}
use Rattle.subsumption.specs.Inner.Closure.{RisePass}
use Rattle.subsumption.proofs.closure.rise.Given as goal

abbrev pub invariant-loop-j : goal.invariant-loop-j
invariant-loop-j live = (live.j ≤ live.count) × (length live.columns ≡ 576) × RisePass live.concepts live.outer live.inners live.kinds (choose_from live.atoms live.assignment) (λ wide l. (k : ℕ) → k < live.j → Ascended live.concepts live.firsts (choose_from live.atoms live.assignment) k l × LinkedTo live.concepts wide k l) live.initial.columns live.columns live.changed
