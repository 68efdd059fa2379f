use native.Mathlib.Omega.{arith}
use mathlib.Core.Path.{sym, ◌∙◌, subst}
use Rattle.matching.specs.Inner.Search.Making.{fits_by, Filled}
use Rattle.matching.proofs.SearchLaws.Making.Filling.{up_to, walk_none, walk_more, walk-skip}
use Prim.Native.Nat.{◌+◌}
use Rattle.matching.proofs.search.problem.note_fit.Goals.{then-is_fitting, else-is_fitting}
use Rattle.matching.proofs.search.problem.note_fit.Goals as goal

pub loop-e-init : goal.loop-e-init
loop-e-init c = (omega arith, c.fit_at-at.ensures, walk_none _ _ _)

pub loop-e-preserved : goal.loop-e-preserved
loop-e-preserved c = elim c.if-is_fitting.branch [
  | then-is_fitting w ↦ (
    omega arith,
    c.loop-e.invariant.1,
    subst (Filled c.fit_at-at.result (up_to (fits_by c.args.problem.now c.args.into.now c.args.right c.args.j) (c.loop-e.e + 1)) c.args.sets.now) (sym w.sets-is) (walk_more _ _ _ _ _ _ (sym c.is_fitting.ensures ∙ w.if-is_fitting.true) c.loop-e.invariant.2 w.insert.ensures),
  )
  | else-is_fitting w ↦ (
    omega arith,
    c.loop-e.invariant.1,
    subst (Filled c.fit_at-at.result (up_to (fits_by c.args.problem.now c.args.into.now c.args.right c.args.j) (c.loop-e.e + 1)) c.args.sets.now) (sym w.sets-is) (walk-skip _ _ _ _ _ (sym c.is_fitting.ensures ∙ w.if-is_fitting.false) c.loop-e.invariant.2),
  )
]
