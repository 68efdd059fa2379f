use lib.Dec.{ltb}
use Rattle.subsumption.specs.declared.refusal.Refusal.TheVariants.{BadRole}
use Rattle.subsumption.specs.Tables.{pairs_of, left_of, right_of, or}
use Rattle.subsumption.proofs.Scans.{Scan}
use Rattle.subsumption.proofs.check.check_roles.Given as goal

abbrev pub invariant-loop-m : goal.invariant-loop-m
invariant-loop-m l = Scan BadRole (λ k. or (ltb 99 (left_of l.roles k)) (ltb 99 (right_of l.roles k))) (pairs_of l.roles) l.m
