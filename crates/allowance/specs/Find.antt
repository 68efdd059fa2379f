-- Finding an assignment on an allowance (02, A.4): the first finder's answer and the count, or the allowance is spent.
use Rattle.std.specs.Prelude.{ℕ, ◌≡◌, List, ◌⊎◌, length, Err, Ok}
use Rattle.subsumption.specs.declared.refusal.Refusal.{Refusal}
use Rattle.subsumption.specs.declared.refusal.Refusal.TheVariants.{NoAssignment, AllowanceSpent}
use Rattle.subsumption.specs.Tables.{Tables}
use Rattle.subsumption.specs.Refusal.{Reply, reply_done, reply_refused, code_of, Outcome}
use Rattle.settings.specs.Settings.{Settings}
use Rattle.allowance.specs.declared.find.Counted.{Counted}
use Rattle.matching.specs.Within.{within_fault, FilledWithin, NoneWithin}
use Rattle.allowance.specs.Count.{Counts, Exceeds}

-- A refusal that comes with a count.
abbrev pub reply_counted : Refusal → ℕ → Reply
reply_counted r count = record { number = (code_of r).number; place = (code_of r).place; value = count }

-- The value is the count: with a refusal other than 10 and 14 it is 0.
abbrev pub reply_by : Outcome → ℕ → Reply
reply_by (Ok tt) count = reply_done count
reply_by (Err r) count = reply_counted r count

abbrev pub counted_reply : Counted → Reply
counted_reply counted = reply_by counted.answer counted.count

-- The count is over the allowance; nothing is written.
pub record Spends (t : Tables) (settings : Settings) (allowance : ℕ) (before after : List ℕ) : Type 0 where
  pub over : Exceeds t settings allowance
  pub kept : after ≡ before

abbrev pub FindsCountedAfter : Outcome → Tables → Settings → ℕ → List ℕ → List ℕ → Reply → Type 0
FindsCountedAfter (Ok tt) t settings allowance before after reply =
    ((reply ≡ reply_done reply.value) × (FilledWithin t settings before after × Counts t settings allowance reply.value))
    ⊎ (((reply ≡ reply_counted NoAssignment reply.value)
    × (NoneWithin t settings before after × Counts t settings allowance reply.value))
    ⊎ ((reply ≡ reply_counted AllowanceSpent allowance) × Spends t settings allowance before after))
FindsCountedAfter (Err r) t settings allowance before after reply = (reply ≡ reply_refused r) × (after ≡ before)

abbrev pub FindsCounted : Tables → Settings → ℕ → List ℕ → List ℕ → Reply → Type 0
FindsCounted t settings allowance before after reply =
    FindsCountedAfter (within_fault t settings (length before)) t settings allowance before after reply
