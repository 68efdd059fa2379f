use Rattle.subsumption.specs.declared.refusal.Refusal.TheVariants.{Malformed}
use Rattle.subsumption.proofs.Scans.{Scan}
use Rattle.countermodel.specs.Rows.{rows_of, at}
use Rattle.countermodel.specs.Membership.{bad_row}
use Rattle.countermodel.proofs.membership.check.check_rows.Given as goal

abbrev pub invariant-loop-p : goal.invariant-loop-p
invariant-loop-p l = Scan Malformed (λ q. bad_row l.size (at l.rows q 0) (at l.rows q 1) (at l.rows q 3)) (rows_of l.rows) l.p
