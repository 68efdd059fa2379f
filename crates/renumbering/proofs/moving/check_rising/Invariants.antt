use Rattle.subsumption.specs.declared.refusal.Refusal.TheVariants.{ForwardInOrder}
use Rattle.subsumption.specs.Tables.{count_of}
use Rattle.subsumption.specs.Check.{forward}
use Rattle.subsumption.proofs.Scans.{Scan}
use Rattle.renumbering.specs.Order.{new_id}
use Rattle.renumbering.specs.Renumbering.{moved_node}
use Rattle.renumbering.proofs.moving.check_rising.Given as goal

abbrev pub invariant-loop-i : goal.invariant-loop-i
invariant-loop-i l = Scan ForwardInOrder (λ j. forward (new_id l.order j) (moved_node l.order l.concepts j)) (count_of l.concepts) l.i
