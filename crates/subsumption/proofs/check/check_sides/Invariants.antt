use Rattle.subsumption.specs.declared.refusal.Refusal.TheVariants.{VariablesOnBothSides}
use Rattle.subsumption.specs.Tables.{pairs_of, left_of, right_of, tree, has_variable, both}
use Rattle.subsumption.proofs.Scans.{Scan}
use Rattle.subsumption.proofs.check.check_sides.Given as goal

abbrev pub invariant-loop-m : goal.invariant-loop-m
invariant-loop-m l = Scan VariablesOnBothSides (λ k. both (has_variable (tree l.concepts (left_of l.questions k))) (has_variable (tree l.concepts (right_of l.questions k)))) (pairs_of l.questions) l.m
