-- Rows and pairs whose ids can be replaced (src/moving.rt).
use Rattle.std.specs.Prelude.{ℕ, ◌<◌, ◌*◌, ◌≡◌, List, Bool, true, length, get_or}
use Rattle.subsumption.specs.Tables.{count_of, exists_at, and_at, node}
use Rattle.subsumption.specs.declared.tables.Row.{Row}
use Rattle.renumbering.specs.Renumbering.{moved_first, moved_second}

-- an inner id has a new one
abbrev pub Known : List ℕ → Bool → ℕ → Type 0
Known order inner x = inner ≡ true → x < length order

-- inner ids are smaller, so they are ids
pub record Inward (concepts : List ℕ) : Type 0 where
  pub some : (i r j : ℕ) → i < count_of concepts → node concepts i ≡ exists_at r j → j < i
  pub and : (i j k : ℕ) → i < count_of concepts → node concepts i ≡ and_at j k → (j < i) × (k < i)

abbrev pub moved_parts : List ℕ → List ℕ → ℕ → Row
moved_parts order concepts i =
    record { kind = get_or concepts (i * 3) 0; a = moved_first order concepts i; b = moved_second order concepts i }

abbrev pub IdsBelow : ℕ → List ℕ → Type 0
IdsBelow count ids = (p : ℕ) → p < length ids → get_or ids p 0 < count
