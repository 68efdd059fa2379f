use native.Mathlib.Omega.{arith}
use Rattle.subsumption.proofs.AtomMarking.{narrowed_none, narrowed-more, narrowed-done}
use Rattle.subsumption.proofs.atoms.keep_atomic.Goals as goal

pub loop-p-init : goal.loop-p-init
loop-p-init c = narrowed_none _ _ c.told-marks

pub loop-p-preserved : goal.loop-p-preserved
loop-p-preserved c =
    narrowed-more _ _ _ _ _ _ c.loop-p.invariant (omega arith) c.requires.concepts_bound (cc) c.and_also-mark.ensures

pub returns : goal.returns
returns c = narrowed-done _ _ _ _ c.loop-p.invariant (omega arith)
