use native.Mathlib.Omega.{arith}
use Rattle.subsumption.proofs.Closing.{quieting-first, quieting-more, quieting-less, quieting-done}
use Rattle.subsumption.proofs.closure.include_until_quiet.Goals as goal

pub loop-busy-init : goal.loop-busy-init
loop-busy-init c = (c.told-columns, quieting-first _ _)

pub include_all-busy-requires : goal.include_all-busy-requires
include_all-busy-requires c = record { low_pairs = c.requires.low_pairs }

pub loop-busy-smaller : goal.loop-busy-smaller
loop-busy-smaller c = quieting-less _ _ _ _ _ c.requires.low_pairs c.loop-busy-test.true c.include_all-busy.ensures

pub loop-busy-preserved : goal.loop-busy-preserved
loop-busy-preserved c = (omega (arith, c.loop-busy.invariant.0), quieting-more _ _ _ _ _ _ _ c.loop-busy.invariant.1 c.include_all-busy.ensures)

pub returns : goal.returns
returns c = quieting-done _ _ _ _ _ c.loop-busy.invariant.1 c.loop-busy-test.false
