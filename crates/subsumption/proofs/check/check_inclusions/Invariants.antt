use Rattle.subsumption.specs.declared.refusal.Refusal.TheVariants.{VariableInInclusion}
use Rattle.subsumption.specs.Tables.{pairs_of, left_of, right_of, tree, has_variable, or}
use Rattle.subsumption.proofs.Scans.{Scan}
use Rattle.subsumption.proofs.check.check_inclusions.Given as goal

abbrev pub invariant-loop-m : goal.invariant-loop-m
invariant-loop-m l = Scan VariableInInclusion (λ k. or (has_variable (tree l.concepts (left_of l.inclusions k))) (has_variable (tree l.concepts (right_of l.inclusions k)))) (pairs_of l.inclusions) l.m
