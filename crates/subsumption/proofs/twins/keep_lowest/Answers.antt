use native.Mathlib.Omega.{arith}
use Rattle.subsumption.proofs.TwinKeys.{lowered_none, lowered-skip, lowered-more, lowered-done}
use Rattle.subsumption.proofs.twins.keep_lowest.Goals as goal
use Rattle.subsumption.proofs.twins.keep_lowest.Goals.{then-marks-p, else-marks-p}

pub loop-p-init : goal.loop-p-init
loop-p-init c = lowered_none _ _ _ c.told-marks

pub bounds-marks-p : goal.bounds-marks-p
bounds-marks-p c = omega (arith, c.loop-p.invariant.long, c.requires.count_bound)

pub bounds-firsts-p : goal.bounds-firsts-p
bounds-firsts-p c = omega (arith, c.requires.count_bound, c.told-firsts)

pub bounds-marks-p-then-marks-p : goal.bounds-marks-p-then-marks-p
bounds-marks-p-then-marks-p c = omega (arith, c.loop-p.invariant.long, c.requires.count_bound)

pub loop-p-preserved : goal.loop-p-preserved
loop-p-preserved c =
    elim c.if-marks-p.branch [
      | then-marks-p w ↦
          rw w.marks-is
          (lowered-more _ _ _ _ _ c.requires.count_bound c.requires.by_index c.loop-p.invariant (omega arith) w.if-marks-p.true)
      | else-marks-p w ↦
          rw w.marks-is
          (lowered-skip _ _ _ _ _ c.requires.count_bound c.requires.by_index c.loop-p.invariant (omega arith) w.if-marks-p.false)
    ]

pub returns : goal.returns
returns c = lowered-done _ _ _ _ _ c.loop-p.invariant (omega arith)
