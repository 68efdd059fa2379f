-- Listing one variable's chosen ids (01, "Operations"): what it answers, the list that it hands back, and what the buffer then holds.
use Rattle.std.specs.Prelude.{ℕ, ◌≡◌, List, ◌++◌, not, ltb, length, drop, Err, Ok}
use Rattle.subsumption.specs.declared.refusal.Refusal.TheVariants.{Malformed}
use Rattle.subsumption.specs.Tables.{Tables}
use Rattle.subsumption.specs.Atoms.{chosen}
use Rattle.subsumption.specs.Refusal.{Reply, reply_with, or_else, refuse_if, Outcome}
use Rattle.subsumption.specs.Check.{limit_fault, table_fault, assignment_fault, buffer_fault}

-- A variable's number that is not below the count is judged within check 2, at place 0.
unfoldable pub variable_fault : ℕ → ℕ → Outcome
variable_fault variables k = refuse_if (not (ltb k variables)) (Malformed 0)

-- Check 1, the variable's number, the other checks up to 7, then 9 and 8: the buffer wants 64 numbers, however few are written.
unfoldable pub choosing_fault : Tables → List ℕ → ℕ → ℕ → Outcome
choosing_fault t assignment k size =
    or_else (limit_fault t)
    (or_else (variable_fault t.variables k) (or_else (table_fault t) (or_else (assignment_fault t assignment) (buffer_fault 64 size))))

-- The value is how many ids there are.
-- The ids stand in front; past them, and after a refusal, the buffer keeps its values.
unfoldable pub chosen_in : Outcome → List ℕ → List ℕ → List ℕ
chosen_in (Ok tt) ids before = ids ++ drop (length ids) before
chosen_in (Err r) ids before = before

-- The reply and the buffer after it.
pub record Chooses (t : Tables) (assignment : List ℕ) (k : ℕ) (before after : List ℕ) (reply : Reply) : Type 0 where
  pub replied : reply ≡ reply_with (choosing_fault t assignment k (length before)) (length (chosen t assignment k))
  pub written : after ≡ chosen_in (choosing_fault t assignment k (length before)) (chosen t assignment k) before

-- What is handed back: the list; after a refusal the whole buffer, with its values.
unfoldable pub handed_back : Outcome → List ℕ → List ℕ → List ℕ
handed_back (Ok tt) ids before = ids
handed_back (Err r) ids before = before
