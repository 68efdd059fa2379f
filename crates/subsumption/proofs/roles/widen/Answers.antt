use native.Mathlib.Omega.{arith}
use mathlib.Core.Path.{sym, ◌∙◌}
use Rattle.subsumption.proofs.RoleSetLaws.{widened_none, widened-skip, widened_more, widened-done}
use Rattle.subsumption.proofs.roles.widen.Goals as goal
use Rattle.subsumption.proofs.roles.widen.Goals.{then-counts, else-counts}

pub loop-s-init : goal.loop-s-init
loop-s-init c = widened_none _ _ _ c.told-into

pub counts-requires : goal.counts-requires
counts-requires c = record { r_bound = (c.requires.narrow_bound.1, omega arith) }

pub join-requires : goal.join-requires
join-requires c = record { from_bound = (c.requires.narrow_bound.0, omega arith) }

pub loop-s-preserved : goal.loop-s-preserved
loop-s-preserved c =
    elim c.if-counts.branch [
      | then-counts w ↦
          rw w.into-is
          (widened_more _ _ _ _ _ c.requires.narrow_bound.0 c.requires.narrow_bound.1 c.loop-s.invariant (omega arith) _
          (sym c.counts.ensures ∙ w.if-counts.true) w.join.ensures)
      | else-counts w ↦
          rw w.into-is
          (widened-skip _ _ _ _ _ c.requires.narrow_bound.0 c.requires.narrow_bound.1 c.loop-s.invariant (omega arith)
          (sym c.counts.ensures ∙ w.if-counts.false))
    ]

pub returns : goal.returns
returns c = widened-done _ _ _ _ _ c.loop-s.invariant (omega arith)
