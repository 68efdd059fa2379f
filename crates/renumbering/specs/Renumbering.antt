-- Renumbered tables (02, A.12): rows move to their new ids, and every id in them, in inclusions and in questions is replaced by its
-- new one. Names, roles and variables are no ids; the role pairs stay.
use Rattle.std.specs.Prelude.{ℕ, zero, suc, ◌+◌, ◌*◌, List, [], ◌∷◌, ◌++◌, Bool, true, false, eqb, get_or}
use Rattle.subsumption.specs.declared.refusal.Refusal.TheVariants.{ForwardInOrder}
use Rattle.subsumption.specs.Tables.{Tables, tables, or, Node, decode, count_of}
use Rattle.subsumption.specs.Refusal.{first_at, Outcome}
use Rattle.subsumption.specs.Check.{forward}
use Rattle.renumbering.specs.Order.{new_id, place_of, moved_ids}

unfoldable pub moved_field : List ℕ → Bool → ℕ → ℕ
moved_field order true i = new_id order i
moved_field order false x = x

-- Inner ids are the second field of "some" (kind 2) and both fields of "and" (kind 3).
unfoldable pub moved_first : List ℕ → List ℕ → ℕ → ℕ
moved_first order concepts i = moved_field order (eqb (get_or concepts (i * 3) 0) 3) (get_or concepts (i * 3 + 1) 0)

unfoldable pub moved_second : List ℕ → List ℕ → ℕ → ℕ
moved_second order concepts i =
    moved_field order (or (eqb (get_or concepts (i * 3) 0) 2) (eqb (get_or concepts (i * 3) 0) 3)) (get_or concepts (i * 3 + 2) 0)

-- The row of the id i, its inner ids replaced: as three numbers, and as a node.
unfoldable pub moved_row : List ℕ → List ℕ → ℕ → List ℕ
moved_row order concepts i = get_or concepts (i * 3) 0 ∷ moved_first order concepts i ∷ moved_second order concepts i ∷ []

unfoldable pub moved_node : List ℕ → List ℕ → ℕ → Node
moved_node order concepts i = decode (get_or concepts (i * 3) 0) (moved_first order concepts i) (moved_second order concepts i)

-- Check 22: the lowest old id with an inner id that would not be smaller.
unfoldable pub rising_fault : List ℕ → List ℕ → Outcome
rising_fault concepts order = first_at ForwardInOrder (λ i. forward (new_id order i) (moved_node order concepts i)) 0 (count_of concepts)

-- The rows of the new ids from `from` on, of `count`.
unfoldable pub moved_rows : List ℕ → List ℕ → ℕ → ℕ → List ℕ
moved_rows order concepts from zero = []
moved_rows order concepts from (suc count) = moved_row order concepts (place_of from order) ++ moved_rows order concepts (suc from) count

unfoldable pub moved_concepts : List ℕ → List ℕ → List ℕ
moved_concepts order concepts = moved_rows order concepts 0 (count_of concepts)

abbrev pub renumbered : List ℕ → Tables → Tables
renumbered order t =
    tables (moved_concepts order t.concepts) (moved_ids order t.inclusions) (moved_ids order t.questions) t.roles t.variables
