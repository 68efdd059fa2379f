use native.Mathlib.Omega.{arith}
use Rattle.countermodel.proofs.PuttingLaws.{joined-none, joined-more, joined-done}
use Rattle.countermodel.proofs.elements.put_names.Goals as goal

pub loop-i-init : goal.loop-i-init
loop-i-init c = (omega arith, joined-none _ _ _)

pub loop-i-preserved : goal.loop-i-preserved
loop-i-preserved c = (
  omega (arith, c.loop-i.invariant.0, c.put_names_of-end.ensures.upper_bound),
  joined-more _ _ _ _ _ _ c.loop-i.invariant.1 _ _ c.put_names_of-end.ensures.put,
)

pub returns : goal.returns
returns c = record {
  upper_bound = omega (arith, c.requires.checked.layered.few, c.loop-i.invariant.0);
  put = joined-done _ _ _ _ _ _ c.loop-i.invariant.1 _ (omega arith);
}
