use Rattle.owl.proofs.RowLaws.{Pairing}
use Rattle.owl.proofs.rows.put_ands.Given as goal

abbrev pub invariant-loop-m : goal.invariant-loop-m
invariant-loop-m l = Pairing l.start l.used l.count l.pending l.initial.rows l.rows l.left l.next l.m
