use mathlib.Core.Path.{◌≡◌}
use lib.ListN.{get_or}
use Rattle.subsumption.specs.Tables.{pairs_of}
use Rattle.groups.specs.Inner.Group.{set_at, sweeps}
use Rattle.groups.proofs.group.reach.Given as goal

abbrev pub invariant-loop : goal.invariant-loop
invariant-loop l =
    let set = set_at (λ i. get_or l.sets i 0) l.questions in
    l.reached ≡ sweeps set (pairs_of l.questions) l.counter (set l.m)
