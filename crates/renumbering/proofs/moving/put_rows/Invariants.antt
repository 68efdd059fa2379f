use Rattle.renumbering.proofs.MovingLaws.{RowsTo}
use Rattle.renumbering.proofs.moving.put_rows.Given as goal

abbrev pub invariant-loop-k : goal.invariant-loop-k
invariant-loop-k l = RowsTo l.order l.concepts l.initial.out l.out l.k
