use native.Mathlib.Omega.{arith}
use Rattle.subsumption.proofs.Linking.{kinds-none, kinds-more, kinds-done}
use Rattle.subsumption.proofs.closure.links.note_kinds.Goals as goal

pub loop-s-init : goal.loop-s-init
loop-s-init c = (omega arith, kinds-none _ _ _ c.told-kinds)

pub put-requires : goal.put-requires
put-requires c = omega (arith, c.loop-s.invariant.1.long)

pub loop-s-preserved : goal.loop-s-preserved
loop-s-preserved c = (omega arith, kinds-more _ _ _ _ _ _ _ _ c.loop-s.invariant.1 c.union-all.ensures c.put.ensures)

pub returns : goal.returns
returns c = kinds-done _ _ _ _ c.loop-s.invariant.1 (omega arith)
