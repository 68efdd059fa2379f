-- Listing the atoms (01, "Operations"): what it answers, and what the buffer then holds.
use Rattle.std.specs.Prelude.{ℕ, ◌≡◌, List, ◌++◌, length, drop, Err, Ok}
use Rattle.subsumption.specs.Tables.{Tables}
use Rattle.subsumption.specs.Atoms.{atoms}
use Rattle.subsumption.specs.Refusal.{Reply, reply_with, or_else, Outcome}
use Rattle.subsumption.specs.Check.{table_fault, buffer_fault}

-- The buffer wants 64 numbers, however few are written.
unfoldable pub listing_fault : Tables → ℕ → Outcome
listing_fault t size = or_else (table_fault t) (buffer_fault 64 size)

-- The atoms' ids stand in front; past them, and after a refusal, the buffer keeps its values.
unfoldable pub listed_in : Outcome → Tables → List ℕ → List ℕ
listed_in (Ok tt) t before = atoms t ++ drop (length (atoms t)) before
listed_in (Err r) t before = before

-- The reply and the buffer that these checks leave.
pub record ListedBy (t : Tables) (before after : List ℕ) (fault : Outcome) (reply : Reply) : Type 0 where
  pub replied : reply ≡ reply_with fault (length (atoms t))
  pub written : after ≡ listed_in fault t before

abbrev pub Lists : Tables → List ℕ → List ℕ → Reply → Type 0
Lists t before after reply = ListedBy t before after (listing_fault t (length before)) reply
