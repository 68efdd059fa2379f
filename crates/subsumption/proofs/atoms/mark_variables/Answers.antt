use native.Mathlib.Omega.{arith}
use Rattle.subsumption.proofs.Marks.{variables-none, variables-more, variables-done, node-rising}
use Rattle.subsumption.proofs.atoms.mark_variables.Goals as goal

pub loop-i-init : goal.loop-i-init
loop-i-init c = search variables-none

pub holds_variable-held-requires : goal.holds_variable-held-requires
holds_variable-held-requires c = node-rising _ _ _ _ c.requires.layered (omega arith) c.node_at.ensures

pub loop-i-preserved : goal.loop-i-preserved
loop-i-preserved c =
    variables-more _ _ _ _ c.requires.layered.rising c.loop-i.invariant (omega arith) (omega (arith, c.requires.layered.few)) (cc)

pub returns : goal.returns
returns c = search variables-done
