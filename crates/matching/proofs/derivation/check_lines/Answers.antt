use native.Mathlib.Omega.{arith}
use Rattle.matching.proofs.DerivationLaws.Lines.{passed-more, marks-more, rules-broken, rules-kept}
use Rattle.matching.proofs.derivation.check_lines.Goals as goal

pub loop-k-preserved : goal.loop-k-preserved
loop-k-preserved c = (omega arith, (omega (arith, c.loop-k.invariant.1.0), (marks-more _ _ _ _ c.loop-k.invariant.1.1.0 _ _ _ c.number_at-left.ensures c.number_at-right.ensures (omega (arith, c.line_follows.ensures.left-known c.if-not-line_follows.false, c.number_at-left.ensures)) (omega (arith, c.line_follows.ensures.right-known c.if-not-line_follows.false, c.number_at-right.ensures)) c.mark_pair.ensures, passed-more _ _ _ _ _ _ _ _ c.loop-k.invariant.1.1.1 (omega arith) c.line_follows.ensures c.if-not-line_follows.false)))

pub returns-then-not-line_follows : goal.returns-then-not-line_follows
returns-then-not-line_follows c = rules-broken _ _ _ _ _ _ _ _ c.loop-k.invariant.1.1.1 (omega arith) c.line_follows.ensures c.if-not-line_follows.true

pub returns : goal.returns
returns c = rules-kept _ _ _ _ _ _ _ c.loop-k.invariant.1.1.1 (omega arith)
