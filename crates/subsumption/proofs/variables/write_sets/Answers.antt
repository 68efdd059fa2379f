use Rattle.subsumption.proofs.Marks.{sets-none, sets-row, sets-done, node-rising, node-narrow}
use native.Mathlib.Omega.{arith}
use Rattle.subsumption.proofs.variables.write_sets.Goals as goal

-- src/variables.rt:52:5
pub loop-i-init : goal.loop-i-init
loop-i-init c = search sets-none

-- src/variables.rt:54:13
pub set_of-set-requires : goal.set_of-set-requires
set_of-set-requires c = record { rising = node-rising _ _ _ _ c.requires.layered (omega (arith, c.requires.layered.few)) c.node_at.ensures; narrow = node-narrow _ _ _ c.requires.by_index c.node_at.ensures }

-- src/variables.rt:55:9
pub bounds-sets-i : goal.bounds-sets-i
bounds-sets-i c = omega (arith, c.requires.layered.few)

-- src/variables.rt:52:5
pub loop-i-preserved : goal.loop-i-preserved
loop-i-preserved c = sets-row _ _ _ _ c.requires.layered c.loop-i.invariant (omega arith) (cc)

-- src/variables.rt:44:1
pub returns : goal.returns
returns c = search sets-done
