use Prim.Native.Nat.{◌+◌}
use Rattle.subsumption.specs.declared.refusal.Refusal.TheVariants.{NoConcept}
use Rattle.subsumption.specs.Tables.{pairs_of, left_of, right_of}
use Rattle.subsumption.specs.Check.{no_concept}
use Rattle.subsumption.proofs.Scans.{Scan}
use Rattle.subsumption.proofs.check.check_pairs.Given as goal

abbrev pub invariant-loop-m : goal.invariant-loop-m
invariant-loop-m l = Scan (λ k. NoConcept (l.passed + k)) (λ k. no_concept l.count (left_of l.pairs k) (right_of l.pairs k)) (pairs_of l.pairs) l.m
