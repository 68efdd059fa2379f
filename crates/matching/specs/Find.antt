-- Finding an assignment (01, "Operations" and demand 3): the first one, or none when no substitution solves.
use Rattle.std.specs.Prelude.{ℕ, ◌≡◌, List, ◌⊎◌, length, take, drop, Err, Ok}
use Rattle.subsumption.specs.declared.refusal.Refusal.TheVariants.{NoAssignment}
use Rattle.subsumption.specs.Tables.{Tables}
use Rattle.subsumption.specs.Refusal.{Reply, reply_done, reply_refused, or_else, Outcome}
use Rattle.subsumption.specs.Check.{table_fault, buffer_fault}
use Rattle.matching.specs.Solving.{Substitution, SolvesBy, First}

-- The checks 1 to 7, then 8: the buffer wants as many numbers as variables.
unfoldable pub finding_fault : Tables → ℕ → Outcome
finding_fault t size = or_else (table_fault t) (buffer_fault t.variables size)

-- Some substitution makes every question hold.
pub record SomeSolves (t : Tables) : Type 0 where
  pub substitution : Substitution t
  pub solves : SolvesBy t substitution

-- A substitution solves; one number a variable is written, the first assignment that solves; the rest of the buffer keeps its values.
pub record FilledBy (t : Tables) (before after : List ℕ) : Type 0 where
  pub some : SomeSolves t
  pub size : length after ≡ length before
  pub first : First t (take t.variables after)
  pub rest : drop t.variables after ≡ drop t.variables before

-- No substitution of any size makes every question hold; nothing is written.
pub record NoneSolves (t : Tables) (before after : List ℕ) : Type 0 where
  pub none : (σ : Substitution t) → SolvesBy t σ → ⊥
  pub kept : after ≡ before

-- No value: what is found is written.
-- Where nothing is refused, either the first assignment is written, or none exists and the reply is refusal 10.
abbrev pub FindsAfter : Outcome → Tables → List ℕ → List ℕ → Reply → Type 0
FindsAfter (Ok tt) t before after reply =
    ((reply ≡ reply_done 0) × FilledBy t before after) ⊎ ((reply ≡ reply_refused NoAssignment) × NoneSolves t before after)
FindsAfter (Err r) t before after reply = (reply ≡ reply_refused r) × (after ≡ before)

abbrev pub Finds : Tables → List ℕ → List ℕ → Reply → Type 0
Finds t before after reply = FindsAfter (finding_fault t (length before)) t before after reply
