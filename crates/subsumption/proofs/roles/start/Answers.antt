use native.Mathlib.Omega.{arith}
use Rattle.subsumption.proofs.RoleSetLaws.{started_none, started-more, started-done}
use Rattle.subsumption.proofs.roles.start.Goals as goal

pub loop-s-init : goal.loop-s-init
loop-s-init c = started_none _ c.requires

pub bounds-into-s : goal.bounds-into-s
bounds-into-s c = omega (arith, c.loop-s.invariant.long)

pub loop-s-preserved : goal.loop-s-preserved
loop-s-preserved c = started-more _ _ c.loop-s.invariant (omega arith)

pub returns : goal.returns
returns c = started-done _ _ c.loop-s.invariant (omega arith)
