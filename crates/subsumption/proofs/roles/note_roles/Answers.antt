use native.Mathlib.Omega.{arith}
use mathlib.Core.Path.{refl}
use Rattle.subsumption.proofs.RoleSetLaws.{sets-none, sets_more, sets-done}
use Rattle.subsumption.proofs.roles.note_roles.Goals as goal

pub start-requires : goal.start-requires
start-requires c = c.requires.into_value

pub loop-m-init : goal.loop-m-init
loop-m-init c = sets-none _ _ c.start.ensures

pub overflow_cast-narrow : goal.overflow_cast-narrow
overflow_cast-narrow c = omega (arith, c.requires.low_roles.narrow c.loop-m.m (omega arith))

pub overflow_cast-wide : goal.overflow_cast-wide
overflow_cast-wide c = omega (arith, c.requires.low_roles.wide c.loop-m.m (omega arith))

pub widen-requires : goal.widen-requires
widen-requires c = record { narrow_bound = (omega (arith, c.requires.low_roles.narrow c.loop-m.m (omega arith)), omega (arith, c.requires.low_roles.wide c.loop-m.m (omega arith))) }

pub loop-m-preserved : goal.loop-m-preserved
loop-m-preserved c = sets_more _ _ _ _ _ _ c.requires.low_roles (omega arith) c.loop-m.invariant refl refl c.widen.ensures

pub returns : goal.returns
returns c = sets-done _ _ _ c.loop-m.invariant (omega arith)
