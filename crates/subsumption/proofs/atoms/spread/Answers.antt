use native.Mathlib.Omega.{arith}
use Rattle.subsumption.proofs.Marks.{spreading-none, spreading-skip, spreading-more, spreading-done, node-rising}
use Rattle.subsumption.proofs.atoms.spread.Goals as goal

pub loop-i-init : goal.loop-i-init
loop-i-init c = spreading-none _ c.requires.layered _ c.told-marks

pub bounds-marks-i : goal.bounds-marks-i
bounds-marks-i c = omega (arith, c.requires.layered.few)

pub mark_inner-requires : goal.mark_inner-requires
mark_inner-requires c =
    record {
      rising = node-rising _ _ _ _ c.requires.layered
          (omega (arith, c.requires.layered.few)) c.node_at.ensures;
    }

pub loop-i-preserved-then-marks-i : goal.loop-i-preserved-then-marks-i
loop-i-preserved-then-marks-i c =
    spreading-more _ c.requires.layered _ _ _
    c.loop-i.invariant (omega arith) _ _ c.node_at.ensures
    c.if-marks-i.true c.mark_inner.ensures

pub loop-i-preserved : goal.loop-i-preserved
loop-i-preserved c = spreading-skip _ c.requires.layered _ _ _ c.loop-i.invariant (omega arith) c.if-marks-i.false

pub returns : goal.returns
returns c = spreading-done _ c.requires.layered _ _ _ c.loop-i.invariant (omega arith)
