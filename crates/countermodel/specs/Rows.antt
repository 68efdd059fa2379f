-- An interpretation as rows of four numbers (02, A.5: a stock): (0, element, name, 0) and (1, element, role, element).
use Rattle.std.specs.Prelude.{ℕ, zero, suc, ◌+◌, ◌*◌, ◌/◌, List, [], ◌∷◌, ◌++◌, length, get_or}
use Rattle.subsumption.specs.Subsumption.{Named, Linked, Interpretation}

abbrev pub rows_of : List ℕ → ℕ
rows_of rows = length rows / 4

-- The number at the place k of the row p.
abbrev pub at : List ℕ → ℕ → ℕ → ℕ
at rows p k = get_or rows (p * 4 + k) 0

module _ {A : Type 0} where
  -- The lists of so many numbers from `from` on, one behind the other.
  unfoldable pub joined : (ℕ → List A) → ℕ → ℕ → List A
  joined list from zero = []
  joined list from (suc count) = list from ++ joined list (suc from) count

-- The name or the link that a row says, by its kind.
unfoldable pub named_by : ℕ → ℕ → ℕ → List Named
named_by zero x n = record { element = x; name = n } ∷ []
named_by (suc kind) x n = []

unfoldable pub linked_by : ℕ → ℕ → ℕ → ℕ → List Linked
linked_by zero x r y = []
linked_by (suc zero) x r y = record { from = x; role = r; to = y } ∷ []
linked_by (suc (suc kind)) x r y = []

-- The interpretation of that many elements (02: things) that the rows say, in any order and with repeats.
unfoldable pub interpretation_of : ℕ → List ℕ → Interpretation
interpretation_of size rows =
    record {
      size = size;
      names = joined (λ p. named_by (at rows p 0) (at rows p 1) (at rows p 2)) 0 (rows_of rows);
      links = joined (λ p. linked_by (at rows p 0) (at rows p 1) (at rows p 2) (at rows p 3)) 0 (rows_of rows);
    }
