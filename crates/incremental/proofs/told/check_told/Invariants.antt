use Rattle.incremental.specs.Inner.Told.{bad_pair}
use Rattle.subsumption.proofs.Scans.{Scan}
use Rattle.subsumption.specs.Tables.{pairs_of, left_of, right_of}
use Rattle.subsumption.specs.declared.refusal.Refusal.TheVariants.{BadAssignment}
use lib.ListN.{length}
use mathlib.Core.Path.{◌≡◌}
use Prim.Native.Nat.{◌%◌}
use Rattle.incremental.proofs.told.check_told.Given as goal

abbrev pub invariant-loop-m : goal.invariant-loop-m
invariant-loop-m l = (length l.told % 2 ≡ 0) × Scan BadAssignment (λ n. bad_pair l.atoms l.variables (left_of l.told n) (right_of l.told n)) (pairs_of l.told) l.m
