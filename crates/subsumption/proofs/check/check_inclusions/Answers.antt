use mathlib.Core.Path.{◌∙◌}
use native.Mathlib.Omega.{arith}
use Rattle.subsumption.specs.Check.{inclusion_fault}
use Rattle.subsumption.proofs.Scans.{scan-none, scan-more, scan-found, scan-done}
use Rattle.subsumption.proofs.Marks.{left_below, right-below}
use Rattle.subsumption.proofs.Accepted.{either_held}
use Rattle.subsumption.proofs.check.check_inclusions.Goals as goal

pub loop-m-init : goal.loop-m-init
loop-m-init c = scan-none _ _ _

pub bounds-sets-left : goal.bounds-sets-left
bounds-sets-left c =
    omega
    (arith, left_below _ _ _ _ c.requires.known c.requires.concepts_bound (omega arith) c.pair_at-pair.ensures, c.requires.variable_sets.long)

pub bounds-sets-right : goal.bounds-sets-right
bounds-sets-right c =
    omega
    (arith, right-below _ _ _ _ c.requires.known c.requires.concepts_bound (omega arith) c.pair_at-pair.ensures, c.requires.variable_sets.long)

pub returns-then-either : goal.returns-then-either
unfolding inclusion_fault
returns-then-either c =
    scan-found _ _ _ _ c.loop-m.invariant (omega arith)
    (either_held _ c.args.inclusions.now _ c.loop-m.m _ c.requires.variable_sets c.requires.known (omega arith) c.pair_at-pair.ensures _ c.either.ensures ∙ c.if-either.true)

pub loop-m-preserved : goal.loop-m-preserved
loop-m-preserved c =
    scan-more _ _ _ _ c.loop-m.invariant (omega arith)
    (either_held _ c.args.inclusions.now _ c.loop-m.m _ c.requires.variable_sets c.requires.known (omega arith) c.pair_at-pair.ensures _ c.either.ensures ∙ c.if-either.false)

pub returns : goal.returns
unfolding inclusion_fault
returns c = scan-done _ _ _ _ c.loop-m.invariant (omega arith)
