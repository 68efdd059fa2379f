use native.Mathlib.Omega.{arith}
use Rattle.renumbering.proofs.OrderLaws.{place-of}
use Rattle.renumbering.proofs.MovingLaws.{rows_none, rows_step, rows-done}
use Rattle.renumbering.proofs.moving.put_rows.Goals as goal

pub loop-k-init : goal.loop-k-init
loop-k-init c = rows_none _ _ _

pub moved_row-row-requires : goal.moved_row-row-requires
moved_row-row-requires c = record { inward = c.requires.inward; order_len = c.requires.order_len; i_bound = omega (arith, c.requires.leads_back.each c.loop-k.k (omega arith), (place-of _ _ c.requires.arranges c.loop-k.k (omega arith)).0) }

pub loop-k-preserved : goal.loop-k-preserved
loop-k-preserved c = rows_step _ _ _ c.requires.concepts_in_bounds _ _ _ _ c.loop-k.invariant (omega arith) (c.requires.leads_back.each _ (omega arith)) c.moved_row-row.ensures

pub returns : goal.returns
returns c = rows-done _ _ _ _ _ c.loop-k.invariant (omega arith)
