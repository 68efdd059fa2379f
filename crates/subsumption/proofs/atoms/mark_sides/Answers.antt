use native.Mathlib.Omega.{arith}
use Rattle.subsumption.proofs.Marks.{marked-to-none, marked-to-done, left_below, sides-more}
use Rattle.subsumption.proofs.atoms.mark_sides.Goals as goal

pub loop-m-init : goal.loop-m-init
loop-m-init c = marked-to-none _ _ _ (omega arith)

pub bounds-marks-left : goal.bounds-marks-left
bounds-marks-left c = omega (arith, left_below _ _ _ _ c.requires.known c.requires.count_bound (omega arith) c.pair_at-pair.ensures)

pub loop-m-preserved : goal.loop-m-preserved
loop-m-preserved c = sides-more _ _ _ _ c.requires.known c.requires.count_bound (omega arith) c.pair_at-pair.ensures _ _ c.loop-m.invariant

pub returns : goal.returns
returns c = marked-to-done _ _ _ _ _ c.loop-m.invariant (omega arith)
