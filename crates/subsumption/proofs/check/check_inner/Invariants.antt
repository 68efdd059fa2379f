use Rattle.subsumption.specs.declared.refusal.Refusal.TheVariants.{ForwardId}
use Rattle.subsumption.specs.Tables.{node, count_of}
use Rattle.subsumption.specs.Check.{forward}
use Rattle.subsumption.proofs.Scans.{Scan}
use Rattle.subsumption.proofs.check.check_inner.Given as goal

abbrev pub invariant-loop-i : goal.invariant-loop-i
invariant-loop-i l = Scan ForwardId (λ j. forward j (node l.concepts j)) (count_of l.concepts) l.i
