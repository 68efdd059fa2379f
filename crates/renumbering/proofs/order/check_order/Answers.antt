use native.Mathlib.Omega.{arith}
use Rattle.subsumption.proofs.Scans.{scan-none, scan-more, scan-found, scan-done}
use Rattle.renumbering.proofs.CheckLaws.{seen_none, seen_more, bad-high, bad-again, not-bad, order-refused, order-uneven, order-passed}
use Rattle.renumbering.proofs.order.check_order.Goals as goal

pub loop-m-init : goal.loop-m-init
loop-m-init c = (scan-none _ _ _, seen_none _)

pub returns-then-count-id : goal.returns-then-count-id
returns-then-count-id c = order-refused _ _ _ (scan-found _ _ _ _ c.loop-m.invariant.0 (omega arith) (bad-high c.args.count c.args.order.now c.loop-m.m (omega arith)))

pub returns-then-seen-id : goal.returns-then-seen-id
returns-then-seen-id c = order-refused _ _ _ (scan-found _ _ _ _ c.loop-m.invariant.0 (omega arith) (bad-again _ _ _ _ c.loop-m.invariant.1 (omega arith) c.if-seen-id.true))

pub loop-m-preserved : goal.loop-m-preserved
loop-m-preserved c = (scan-more _ _ _ _ c.loop-m.invariant.0 (omega arith) (not-bad _ _ _ _ c.loop-m.invariant.1 (omega arith) (omega arith) c.if-seen-id.false), seen_more _ _ _ c.loop-m.invariant.1 (omega arith))

pub returns-then-order-count : goal.returns-then-order-count
returns-then-order-count c = order-uneven _ _ (scan-done _ _ _ _ c.loop-m.invariant.0 (omega arith)) c.if-order-count.true

pub returns : goal.returns
returns c = order-passed _ _ (scan-done _ _ _ _ c.loop-m.invariant.0 (omega arith)) c.if-order-count.false
