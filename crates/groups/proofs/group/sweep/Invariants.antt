use mathlib.Core.Path.{◌≡◌}
use lib.ListN.{get_or}
use Rattle.groups.specs.Inner.Group.{set_at, swept}
use Rattle.groups.proofs.group.sweep.Given as goal

abbrev pub invariant-loop-m : goal.invariant-loop-m
invariant-loop-m l = l.reached ≡ swept (set_at (λ i. get_or l.sets i 0) l.questions) l.m l.from
