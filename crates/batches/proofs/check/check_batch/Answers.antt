use mathlib.Core.Path.{◌∙◌}
use native.Mathlib.Omega.{arith}
use borrow.Author.Tests.{lt-ltb, le-ltb}
use Rattle.subsumption.proofs.Scans.{scan-more, scan-found, scan-done}
use Rattle.batches.proofs.BatchLaws.{too_many, other-shares, other-sum, shaped-goes-on}
use Rattle.batches.proofs.check.check_batch.Goals as goal

pub returns-then-count-gt-TABLES : goal.returns-then-count-gt-TABLES
returns-then-count-gt-TABLES c = too_many _ _ _ c.if-count-gt-TABLES.true

pub returns-then-shares-count : goal.returns-then-shares-count
returns-then-shares-count c = other-shares _ _ _ c.if-shares-count.true

pub returns-then-sum_of-size : goal.returns-then-sum_of-size
returns-then-sum_of-size c = other-sum _ _ _ (λ e. c.if-sum_of-size.true (c.sum_of.ensures ∙ e))

pub returns-then-share-gt-SHARE : goal.returns-then-share-gt-SHARE
returns-then-share-gt-SHARE c =
    shaped-goes-on _ _ _ _ c.loop-k.invariant.0 c.loop-k.invariant.1 c.loop-k.invariant.2
    (scan-found _ _ _ _ c.loop-k.invariant.3 (omega (arith, c.loop-k.invariant.1)) (lt-ltb _ _ c.if-share-gt-SHARE.true))

pub loop-k-preserved : goal.loop-k-preserved
loop-k-preserved c = (
  c.loop-k.invariant.0,
  c.loop-k.invariant.1,
  c.loop-k.invariant.2,
  scan-more _ _ _ _ c.loop-k.invariant.3 (omega (arith, c.loop-k.invariant.1)) (le-ltb _ _ c.if-share-gt-SHARE.false),
)

pub returns : goal.returns
returns c =
    shaped-goes-on _ _ _ _ c.loop-k.invariant.0 c.loop-k.invariant.1 c.loop-k.invariant.2
    (scan-done _ _ _ _ c.loop-k.invariant.3 (omega (arith, c.loop-k.invariant.1)))
