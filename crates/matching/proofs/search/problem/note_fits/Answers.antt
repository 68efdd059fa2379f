use native.Mathlib.Omega.{arith}
use Prim.Native.Nat.{◌+◌}
use mathlib.Core.Path.{sym, subst}
use Rattle.matching.proofs.SearchLaws.Making.Filling.{FitsTo, fits-skip, fits_more, open-held, open-other, open_free}
use Rattle.matching.proofs.search.problem.note_fits.Goals.{then-problem-j-eq1, else-problem-j-eq1}
use Rattle.matching.proofs.search.problem.note_fits.Goals as goal

pub loop-j-preserved-then-problem-j-ne2 : goal.loop-j-preserved-then-problem-j-ne2
loop-j-preserved-then-problem-j-ne2 c = fits-skip _ _ _ _ _ _ _ c.requires.readable.few c.loop-j.invariant (omega arith) (open-other _ _ c.if-problem-j-ne2.true)

pub loop-j-preserved : goal.loop-j-preserved
loop-j-preserved c = elim c.if-problem-j-eq1.branch [
  | then-problem-j-eq1 w ↦ subst (FitsTo c.args.problem.now c.args.into.now c.args.count c.args.right c.args.sets.now (c.loop-j.j + 1)) (sym w.sets-is) (fits_more _ _ _ _ _ _ _ c.requires.readable.few c.loop-j.invariant (omega arith) _ w.note_fit.ensures (open-held _ _ c.if-problem-j-ne2.false w.if-problem-j-eq1.true))
  | else-problem-j-eq1 w ↦ subst (FitsTo c.args.problem.now c.args.into.now c.args.count c.args.right c.args.sets.now (c.loop-j.j + 1)) (sym w.sets-is) (fits-skip _ _ _ _ _ _ _ c.requires.readable.few c.loop-j.invariant (omega arith) (open_free _ _ w.if-problem-j-eq1.false))
]
