use native.Mathlib.Omega.{arith}
use mathlib.Core.Path.{refl}
use Rattle.matching.specs.Inner.Derivation.{seen}
use Rattle.matching.proofs.DerivationLaws.Rules.{all-skip, marked_all, marked-not}
use Rattle.matching.proofs.derivation.rules.all_marked.Goals as goal

pub loop-q-preserved-then-picked-eq0 : goal.loop-q-preserved-then-picked-eq0
loop-q-preserved-then-picked-eq0 c = (omega arith, all-skip _ _ _ _ c.loop-q.invariant.1 c.if-picked-eq0.true)

pub returns-then-not-has_mark : goal.returns-then-not-has_mark
returns-then-not-has_mark c = marked-not c.args.atoms.now _ (seen c.args.count c.args.marks.now c.args.left) c.loop-q.q _ _ (omega arith) c.if-picked-eq0.false refl c.has_mark.ensures c.if-not-has_mark.true

pub returns : goal.returns
returns c = marked_all c.args.atoms.now _ (seen c.args.count c.args.marks.now c.args.left) _ c.loop-q.invariant.1 (omega arith)
