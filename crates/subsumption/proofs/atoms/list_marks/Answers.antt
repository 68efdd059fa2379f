use mathlib.Core.Path.{◌≡◌, refl, ◌∙◌, ap}
use native.Mathlib.Omega.{arith}
use lib.ListN.{length, length-set}
use Rattle.subsumption.specs.Inner.Atoms.{mark_at, marked_ids, in_front}
use Rattle.subsumption.proofs.Lists.{listed-none, listed-room, listed-yes, listed-no, keep-le}
use Rattle.subsumption.proofs.atoms.list_marks.Goals as goal
use Rattle.subsumption.proofs.atoms.list_marks.Goals.{then-marks-p, else-marks-p}

pub loop-p-init : goal.loop-p-init
loop-p-init c = (omega arith, refl, listed-none (mark_at c.args.marks.now) _)

pub offset_bounds-out-listed : goal.offset_bounds-out-listed
offset_bounds-out-listed c = omega (arith, keep-le (mark_at c.args.marks.now) c.loop-p.p, c.loop-p.invariant.2.count)

pub bounds-out-listed : goal.bounds-out-listed
bounds-out-listed c = omega (arith, listed-room (mark_at c.args.marks.now) _ c.loop-p.p _ c.if-marks-p.true (omega arith) c.requires.count_in_bounds_2, c.loop-p.invariant.2.count)

pub overflow_add-listed : goal.overflow_add-listed
overflow_add-listed c = omega (arith, keep-le (mark_at c.args.marks.now) c.loop-p.p, c.loop-p.invariant.2.count)

pub loop-p-preserved : goal.loop-p-preserved
loop-p-preserved c = (
  omega arith,
  elim c.if-marks-p.branch [
    | then-marks-p w ↦ rw w.out-is (simp length-set c.loop-p.invariant.1)
    | else-marks-p w ↦ rw w.out-is c.loop-p.invariant.1
  ],
  elim c.if-marks-p.branch [
    | then-marks-p w ↦
        rw (w.out-is, w.listed-is)
        (listed-yes _ _ _ _ _ c.loop-p.invariant.2 w.if-marks-p.true (omega (arith, listed-room (mark_at c.args.marks.now) _ c.loop-p.p _ w.if-marks-p.true (omega arith) c.requires.count_in_bounds_2, c.loop-p.invariant.2.count)))
    | else-marks-p w ↦ rw (w.out-is, w.listed-is) (listed-no _ _ _ _ _ c.loop-p.invariant.2 w.if-marks-p.false)
  ],
)

pub returns : goal.returns
returns c = let e : c.loop-p.p ≡ c.args.count = omega arith in record { value = c.loop-p.invariant.2.count ∙ ap (λ z. length (marked_ids c.args.marks.now z)) e; out_value = c.loop-p.invariant.2.buffer ∙ ap (λ z. in_front (marked_ids c.args.marks.now z) c.args.out.now) e }
