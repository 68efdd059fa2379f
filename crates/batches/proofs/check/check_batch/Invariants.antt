use Prim.Native.Nat.{◌≤◌}
use mathlib.Core.Path.{◌≡◌}
use lib.Dec.{ltb}
use lib.ListN.{length, get_or}
use Rattle.subsumption.specs.declared.refusal.Refusal.TheVariants.{BadBatch}
use Rattle.subsumption.proofs.Scans.{Scan}
use Rattle.batches.specs.Batch.{total}
use Rattle.batches.proofs.check.check_batch.Given as goal

abbrev pub invariant-loop-k : goal.invariant-loop-k
invariant-loop-k l = (length l.lengths ≤ 8) × (length l.shares ≡ length l.lengths) × (total l.lengths (length l.lengths) ≡ l.size) × Scan BadBatch (λ j. ltb 1000000 (get_or l.shares j 0)) (length l.lengths) l.k
