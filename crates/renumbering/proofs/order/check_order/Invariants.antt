use lib.ListN.{length}
use Rattle.subsumption.specs.declared.refusal.Refusal.TheVariants.{BadOrder}
use Rattle.subsumption.proofs.Scans.{Scan}
use Rattle.renumbering.proofs.CheckLaws.{bad_at, SeenTo}
use Rattle.renumbering.proofs.order.check_order.Given as goal

abbrev pub invariant-loop-m : goal.invariant-loop-m
invariant-loop-m l = Scan BadOrder (bad_at l.count l.order) (length l.order) l.m × SeenTo l.order l.m l.seen
