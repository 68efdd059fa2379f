use native.Mathlib.Omega.{arith}
use Rattle.countermodel.proofs.PuttingLaws.{joined-none, joined-more, joined-done}
use Rattle.countermodel.proofs.elements.put_links.Goals as goal

pub loop-i-init : goal.loop-i-init
loop-i-init c = (omega arith, joined-none _ _ _)

pub loop-i-preserved : goal.loop-i-preserved
loop-i-preserved c = (
  omega (arith, c.loop-i.invariant.0, c.put_links_of-end.ensures.upper_bound),
  joined-more _ _ _ _ _ _ c.loop-i.invariant.1 _ _ (c.put_links_of-end.ensures.for_roles _ c.note_roles.ensures),
)

pub returns : goal.returns
returns c = joined-done _ _ _ _ _ _ c.loop-i.invariant.1 _ (omega arith)
