use native.Mathlib.Omega.{arith}
use Rattle.incremental.proofs.ToldLaws.{told_none, read_low, told_more, told-done}
use Rattle.incremental.proofs.told.read_told.Goals as goal

pub loop-m-init : goal.loop-m-init
loop-m-init c = told_none _ _ c.requires.readable _ c.requires.choices_value

pub overflow_shl-choices : goal.overflow_shl-choices
overflow_shl-choices c = omega (arith, read_low _ _ c.requires.readable _ _ _ c.loop-m.invariant (omega arith) c.place_of-place.ensures)

pub loop-m-preserved : goal.loop-m-preserved
loop-m-preserved c = told_more _ _ c.requires.readable _ _ _ c.loop-m.invariant (omega arith) c.place_of-place.ensures

pub returns : goal.returns
returns c = told-done _ _ c.requires.readable _ _ (omega arith) c.loop-m.invariant
