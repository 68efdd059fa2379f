use mathlib.Core.Path.{◌∙◌}
use native.Mathlib.Omega.{arith}
use Rattle.subsumption.specs.Check.{roles_fault}
use Rattle.subsumption.proofs.Scans.{scan-none, scan-more, scan-found, scan-done}
use Rattle.subsumption.proofs.Accepted.{role-over}
use Rattle.subsumption.proofs.check.check_roles.Goals as goal

pub loop-m-init : goal.loop-m-init
loop-m-init c = scan-none _ _ _

pub returns-then-either : goal.returns-then-either
unfolding roles_fault
returns-then-either c = scan-found _ _ _ _ c.loop-m.invariant (omega arith) (role-over c.args.roles.now c.loop-m.m _ c.pair_at-pair.ensures _ c.either.ensures ∙ c.if-either.true)

pub loop-m-preserved : goal.loop-m-preserved
loop-m-preserved c = scan-more _ _ _ _ c.loop-m.invariant (omega arith) (role-over c.args.roles.now c.loop-m.m _ c.pair_at-pair.ensures _ c.either.ensures ∙ c.if-either.false)

pub returns : goal.returns
unfolding roles_fault
returns c = scan-done _ _ _ _ c.loop-m.invariant (omega arith)
