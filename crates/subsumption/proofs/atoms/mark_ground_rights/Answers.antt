use mathlib.Core.Path.{ap}
use mathlib.Core.Bool.{not}
use borrow.Author.Tests.{eq-eqb, ne_eqb}
use native.Mathlib.Omega.{arith}
use Rattle.subsumption.proofs.Marks.{marked-to-none, marked-to-done, right-below, rights-more, rights-skip}
use Rattle.subsumption.proofs.atoms.mark_ground_rights.Goals as goal

pub loop-m-init : goal.loop-m-init
loop-m-init c = marked-to-none _ _ _ (omega arith)

pub bounds-sets-right : goal.bounds-sets-right
bounds-sets-right c = omega (arith, right-below _ _ _ _ c.requires.known c.requires.count_bound (omega arith) c.pair_at-pair.ensures)

pub loop-m-preserved-then-sets-right-ne0 : goal.loop-m-preserved-then-sets-right-ne0
loop-m-preserved-then-sets-right-ne0 c = rights-skip _ _ _ _ c.requires.known c.requires.count_bound (omega arith) c.pair_at-pair.ensures c.args.sets.now _ _ c.loop-m.invariant (ap not (ne_eqb _ 0 c.if-sets-right-ne0.true))

pub bounds-marks-right : goal.bounds-marks-right
bounds-marks-right c = omega (arith, right-below _ _ _ _ c.requires.known c.requires.count_bound (omega arith) c.pair_at-pair.ensures)

pub loop-m-preserved : goal.loop-m-preserved
loop-m-preserved c = rights-more _ _ _ _ c.requires.known c.requires.count_bound (omega arith) c.pair_at-pair.ensures c.args.sets.now _ _ c.loop-m.invariant (ap not (eq-eqb _ 0 c.if-sets-right-ne0.false))

pub returns : goal.returns
returns c = marked-to-done _ _ _ _ _ c.loop-m.invariant (omega arith)
