use Rattle.subsumption.specs.declared.refusal.Refusal.TheVariants.{Malformed}
use Rattle.subsumption.specs.Tables.{count_of}
use Rattle.subsumption.specs.Check.{malformed}
use Rattle.subsumption.proofs.Scans.{Scan}
use Rattle.subsumption.proofs.check.check_rows.Given as goal

abbrev pub invariant-loop-i : goal.invariant-loop-i
invariant-loop-i l = Scan Malformed (malformed l.concepts l.variables) (count_of l.concepts) l.i
