use native.Mathlib.Omega.{arith}
use Rattle.subsumption.proofs.Choices.{spread-first, spread-skip, spread-turn, spread-done}
use Rattle.subsumption.proofs.closure.columns.spread.Goals as goal

pub loop-q-init : goal.loop-q-init
loop-q-init c = spread-first _ _ _ _

pub overflow_cast-atom : goal.overflow_cast-atom
overflow_cast-atom c = omega (arith, c.type_inv.atoms c.loop-q.q)

pub loop-q-preserved-then-picked-eq0 : goal.loop-q-preserved-then-picked-eq0
loop-q-preserved-then-picked-eq0 c = spread-skip _ _ _ _ _ _ _ (omega arith) c.loop-q.invariant c.if-picked-eq0.true

pub flow-new-requires : goal.flow-new-requires
flow-new-requires c = record { from_bound = (omega arith, c.requires.known.low c.loop-q.q (omega arith)) }

pub loop-q-preserved : goal.loop-q-preserved
loop-q-preserved c = spread-turn _ _ _ _ _ _ _ (omega arith) c.loop-q.invariant _ _ (omega arith) c.if-picked-eq0.false c.flow-new.ensures

pub returns : goal.returns
returns c = spread-done _ _ _ _ _ _ _ c.loop-q.invariant (omega arith)
