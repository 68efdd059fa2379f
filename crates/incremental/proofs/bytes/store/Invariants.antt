use Rattle.incremental.proofs.ByteLaws.{StoredTo}
use Rattle.incremental.proofs.bytes.store.Given as goal

abbrev pub invariant-loop-i : goal.invariant-loop-i
invariant-loop-i l = StoredTo l.square l.count l.initial.table l.i l.table
