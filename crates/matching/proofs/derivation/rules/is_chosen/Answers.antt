use native.Mathlib.Omega.{arith}
use mathlib.Core.Path.{refl}
use Rattle.matching.proofs.DerivationLaws.Rules.{all-skip, chosen-found, chosen_none}
use Rattle.matching.proofs.derivation.rules.is_chosen.Goals as goal

pub loop-q-preserved-then-picked-eq0 : goal.loop-q-preserved-then-picked-eq0
loop-q-preserved-then-picked-eq0 c = (omega arith, all-skip _ _ _ _ c.loop-q.invariant.1 c.if-picked-eq0.true)

pub returns-then-atom-id : goal.returns-then-atom-id
returns-then-atom-id c = chosen-found c.args.atoms.now _ c.loop-q.q _ _ (omega arith) c.if-picked-eq0.false refl c.if-atom-id.true

pub returns : goal.returns
returns c = chosen_none c.args.atoms.now _ _ _ c.loop-q.invariant.1 (omega arith)
