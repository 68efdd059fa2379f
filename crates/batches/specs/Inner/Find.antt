-- What the steps of a batch promise (src/find.rt).
use Rattle.std.specs.Prelude.{ℕ, ◌+◌, ◌*◌, ◌<◌, ◌≤◌, ◌≡◌, List, ◌⊎◌, length, get_or}
use Rattle.subsumption.specs.declared.refusal.Code.{Code}
use Rattle.subsumption.specs.Tables.{Tables}
use Rattle.subsumption.specs.Refusal.{Reply, Outcome}
use Rattle.allowance.specs.Find.{reply_by, FindsCounted}
use Rattle.batches.specs.Batch.{unrestricted, stretch}

-- Nothing is written outside the stretch of table k.
pub record OnStretch (variables k : ℕ) (before after : List ℕ) : Type 0 where
  pub size : length after ≡ length before
  pub outside : (p : ℕ) → (p < k * variables) ⊎ (k * variables + variables ≤ p) → get_or after p 0 ≡ get_or before p 0

-- The answer of one table on its stretch.
pub record FindsAt (t : Tables) (allowance k : ℕ) (before after : List ℕ) (reply : Reply) : Type 0 where
  pub finds : FindsCounted t (unrestricted t) allowance (stretch t.variables before k) (stretch t.variables after k) reply
  pub only : OnStretch t.variables k before after

-- The number and the place of an answer, whatever its count.
abbrev pub Coded : Outcome → Code → Type 0
Coded answer code = (count : ℕ) → reply_by answer count ≡ record { number = code.number; place = code.place; value = count }
