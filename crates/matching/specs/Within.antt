-- Finding an assignment within settings (02, A.9): the first one within them, or none of them solves.
use Rattle.std.specs.Prelude.{ℕ, ◌≡◌, List, ◌⊎◌, length, take, drop, Err, Ok}
use Rattle.subsumption.specs.declared.refusal.Refusal.TheVariants.{NoAssignment}
use Rattle.subsumption.specs.Tables.{Tables}
use Rattle.subsumption.specs.Refusal.{Reply, reply_done, reply_refused, or_else, Outcome, Done}
use Rattle.subsumption.specs.Check.{table_fault, assignment_fault, buffer_fault}
use Rattle.settings.specs.Settings.{Settings, Heeds, Unrestricted, settings_fault}
use Rattle.matching.specs.Solving.{Solves, Earlier, Substitution, SolvesBy}

-- The checks 1 to 7, then 19, then 8.
unfoldable pub within_fault : Tables → Settings → ℕ → Outcome
within_fault t s size = or_else (table_fault t) (or_else (settings_fault t s) (buffer_fault t.variables size))

-- The first assignment within the settings that solves: every other accepted one within them that solves comes later.
pub record FirstWithin (t : Tables) (s : Settings) (assignment : List ℕ) : Type 0 where
  pub accepted : assignment_fault t assignment ≡ Done
  pub heeds : Heeds s assignment
  pub solves : Solves t assignment
  pub first :
      (other : List ℕ) → assignment_fault t other ≡ Done → Heeds s other → Solves t other → (other ≡ assignment) ⊎ Earlier assignment other

-- One number a variable is written, the first assignment within the settings that solves; the rest of the buffer keeps its values.
pub record FilledWithin (t : Tables) (s : Settings) (before after : List ℕ) : Type 0 where
  pub size : length after ≡ length before
  pub first : FirstWithin t s (take t.variables after)
  pub rest : drop t.variables after ≡ drop t.variables before

-- No assignment within the settings solves, and where they permit all, no substitution does; nothing is written.
pub record NoneWithin (t : Tables) (s : Settings) (before after : List ℕ) : Type 0 where
  pub none : (other : List ℕ) → assignment_fault t other ≡ Done → Heeds s other → Solves t other → ⊥
  pub by-substitution : Unrestricted t s → (σ : Substitution t) → SolvesBy t σ → ⊥
  pub kept : after ≡ before

-- Where nothing is refused, either the first assignment is written, or none exists and the reply is refusal 10.
abbrev pub FindsWithinAfter : Outcome → Tables → Settings → List ℕ → List ℕ → Reply → Type 0
FindsWithinAfter (Ok tt) t s before after reply =
    ((reply ≡ reply_done 0) × FilledWithin t s before after) ⊎ ((reply ≡ reply_refused NoAssignment) × NoneWithin t s before after)
FindsWithinAfter (Err r) t s before after reply = (reply ≡ reply_refused r) × (after ≡ before)

abbrev pub FindsWithin : Tables → Settings → List ℕ → List ℕ → Reply → Type 0
FindsWithin t s before after reply = FindsWithinAfter (within_fault t s (length before)) t s before after reply
