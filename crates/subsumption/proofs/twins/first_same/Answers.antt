use native.Mathlib.Omega.{arith}
use Rattle.subsumption.proofs.TwinKeys.{none_more, first_found, first-own}
use Rattle.subsumption.proofs.twins.first_same.Goals as goal

pub loop-q-init : goal.loop-q-init
loop-q-init c = (c.requires.from_le_i, c.requires.by_index)

pub returns-then-keys-q : goal.returns-then-keys-q
returns-then-keys-q c = first_found _ _ _ c.loop-q.invariant.1 (omega arith) c.if-keys-q.true

pub loop-q-preserved : goal.loop-q-preserved
loop-q-preserved c = (omega arith, none_more c.args.keys.now c.args.i _ c.loop-q.invariant.1 c.if-keys-q.false)

pub returns : goal.returns
returns c = first-own _ _ _ c.loop-q.invariant.1 (omega arith)
