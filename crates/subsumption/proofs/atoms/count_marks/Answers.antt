use mathlib.Core.Path.{◌≡◌, ◌∙◌, ap}
use native.Mathlib.Omega.{arith}
use lib.ListN.{length}
use Rattle.subsumption.specs.Inner.Atoms.{mark_at, marked_ids}
use Rattle.subsumption.proofs.Lists.{keep-le, count_none, count_yes, count_no}
use Rattle.subsumption.proofs.atoms.count_marks.Goals as goal
use Rattle.subsumption.proofs.atoms.count_marks.Goals.{then-marks-p, else-marks-p}

pub loop-p-init : goal.loop-p-init
loop-p-init c = (omega arith, count_none (mark_at c.args.marks.now))

pub overflow_add-marked : goal.overflow_add-marked
overflow_add-marked c = omega (arith, keep-le (mark_at c.args.marks.now) c.loop-p.p)

pub loop-p-preserved : goal.loop-p-preserved
loop-p-preserved c = (
  omega arith,
  elim c.if-marks-p.branch [
    | then-marks-p w ↦ w.marked-is ∙ count_yes (mark_at c.args.marks.now) _ _ c.loop-p.invariant.1 w.if-marks-p.true
    | else-marks-p w ↦ w.marked-is ∙ count_no (mark_at c.args.marks.now) _ _ c.loop-p.invariant.1 w.if-marks-p.false
  ],
)

pub returns : goal.returns
returns c =
    let e : c.loop-p.p ≡ c.args.count = omega arith in
    c.loop-p.invariant.1 ∙ ap (λ z. length (marked_ids c.args.marks.now z)) e
