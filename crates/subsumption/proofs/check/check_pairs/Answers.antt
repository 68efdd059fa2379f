use mathlib.Core.Path.{◌∙◌}
use native.Mathlib.Omega.{arith}
use Rattle.subsumption.specs.Check.{pairs_fault}
use Rattle.subsumption.proofs.Scans.{scan-none, scan-more, scan-found, scan-done}
use Rattle.subsumption.proofs.Forward.{pair-unknown}
use Rattle.subsumption.proofs.check.check_pairs.Goals as goal

pub loop-m-init : goal.loop-m-init
loop-m-init c = scan-none _ _ _

pub returns-then-is_no_concept : goal.returns-then-is_no_concept
unfolding pairs_fault
returns-then-is_no_concept c =
    scan-found _ _ _ _ c.loop-m.invariant (omega arith)
    (pair-unknown _ c.args.pairs.now c.loop-m.m _ _ c.pair_at-pair.ensures c.is_no_concept.ensures ∙ c.if-is_no_concept.true)

pub loop-m-preserved : goal.loop-m-preserved
loop-m-preserved c =
    scan-more _ _ _ _ c.loop-m.invariant (omega arith)
    (pair-unknown _ c.args.pairs.now c.loop-m.m _ _ c.pair_at-pair.ensures c.is_no_concept.ensures ∙ c.if-is_no_concept.false)

pub returns : goal.returns
unfolding pairs_fault
returns c = scan-done _ _ _ _ c.loop-m.invariant (omega arith)
