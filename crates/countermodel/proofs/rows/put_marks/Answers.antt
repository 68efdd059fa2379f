use native.Mathlib.Omega.{arith}
use Rattle.countermodel.proofs.PuttingLaws.{marks-none, marks-yes, marks-no, marks-done}
use Rattle.countermodel.proofs.rows.put_marks.Goals.{then-marks-q, else-marks-q}
use Rattle.countermodel.proofs.rows.put_marks.Goals as goal

pub loop-q-init : goal.loop-q-init
loop-q-init c = marks-none _ _ _ _ _ _

pub loop-q-preserved : goal.loop-q-preserved
loop-q-preserved c =
    elim c.if-marks-q.branch [
      | then-marks-q w ↦
          rw (w.end-is, w.out-is) (marks-yes _ _ _ _ _ _ _ _ _ c.loop-q.invariant _ _ w.if-marks-q.true w.put_mark-end.ensures)
      | else-marks-q w ↦ rw (w.end-is, w.out-is) (marks-no _ _ _ _ _ _ _ _ _ c.loop-q.invariant w.if-marks-q.false)
    ]

pub returns : goal.returns
returns c = record {
  upper_bound = omega (arith, c.loop-q.invariant.few);
  put = marks-done _ _ _ _ _ _ _ _ _ c.loop-q.invariant _ (omega arith);
}
