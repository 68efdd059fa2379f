-- Rows as the code reads them, and inner ids that are smaller.
use Rattle.std.specs.Prelude.{ℕ, ◌+◌, ◌*◌, ◌<◌, List, get_or}
use Rattle.subsumption.specs.declared.tables.Row.{Row}
use Rattle.subsumption.specs.declared.tables.Pair.{Pair}
use Rattle.subsumption.specs.Tables.{left_of, right_of, Node, top_at, name_at, exists_at, and_at, var_at}

abbrev pub row_of : List ℕ → ℕ → Row
row_of concepts i = record { kind = get_or concepts (i * 3) 0; a = get_or concepts (i * 3 + 1) 0; b = get_or concepts (i * 3 + 2) 0 }

abbrev pub pair_of : List ℕ → ℕ → Pair
pair_of pairs m = record { left = left_of pairs m; right = right_of pairs m }

-- inner ids are smaller than i
abbrev pub Rising : ℕ → Node → Type 0
Rising i top_at = Unit {0}
Rising i (name_at n) = Unit {0}
Rising i (exists_at r j) = j < i
Rising i (and_at j k) = (j < i) × (k < i)
Rising i (var_at k) = Unit {0}
