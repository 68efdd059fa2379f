use native.Mathlib.Omega.{arith}
use Rattle.countermodel.proofs.PuttingLaws.{joined-none, joined-more, joined-skip, joined-done}
use Rattle.countermodel.proofs.UsedLaws.{no-links}
use Rattle.countermodel.proofs.elements.put_links_of.Goals.{then-used-s, else-used-s}
use Rattle.countermodel.proofs.elements.put_links_of.Goals as goal

pub loop-s-init : goal.loop-s-init
loop-s-init c = (omega arith, λ roles R. joined-none _ _ _)

pub loop-s-preserved : goal.loop-s-preserved
loop-s-preserved c =
    elim c.if-used-s.branch [
      | then-used-s w ↦
          rw (w.end-is, w.out-is) (
            omega (arith, c.loop-s.invariant.0, w.put_links_by-end.ensures.upper_bound),
            λ roles R. joined-more _ _ _ _ _ _ (c.loop-s.invariant.1 roles R) _ _ (w.put_links_by-end.ensures.for_roles roles R),
          )
      | else-used-s w ↦
          rw (w.end-is, w.out-is) (
            omega (arith, c.loop-s.invariant.0),
            λ roles R.
                joined-skip _ _ _ _ _ _ (c.loop-s.invariant.1 roles R)
                (no-links _ _ _ _ _ _ _ c.requires.checked R c.note_own.ensures c.mark_used.ensures _ (omega arith) w.if-used-s.false),
          )
    ]

pub returns : goal.returns
returns c = record {
  upper_bound = omega (arith, c.loop-s.invariant.0);
  for_roles = λ roles R. joined-done _ _ _ _ _ _ (c.loop-s.invariant.1 roles R) _ (omega arith);
}
