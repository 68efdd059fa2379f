use Rattle.numerals.proofs.PieceLaws.{printed-none}
use Rattle.hermitcasket.proofs.MarkLines.{marks-room, marks-set, marks-unset, marks-done}
use Rattle.hermitcasket.proofs.parts.put_marks.Goals.{then-marks-q, else-marks-q}
use Rattle.hermitcasket.proofs.parts.put_marks.Goals as goal

pub loop-q-init : goal.loop-q-init
loop-q-init c = printed-none _ _ _

pub put_mark-end-requires : goal.put_mark-end-requires
put_mark-end-requires c = search marks-room

pub loop-q-preserved : goal.loop-q-preserved
loop-q-preserved c =
    elim c.if-marks-q.branch [
      | then-marks-q w ↦ rw (w.end-is, w.out-is) (search marks-set)
      | else-marks-q w ↦ rw (w.end-is, w.out-is) (search marks-unset)
    ]

pub returns : goal.returns
returns c = search marks-done
