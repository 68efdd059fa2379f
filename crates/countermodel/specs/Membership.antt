-- Whether an element of a given interpretation is a member of a concept (02, A.5: a thing belongs to an entry), under an assignment.
use Rattle.std.specs.Prelude.{ℕ, zero, suc, ◌%◌, List, Bool, true, not, eqb, ltb, length}
use Rattle.subsumption.specs.declared.refusal.Refusal.TheVariants.{Limit, Malformed, NoConcept}
use Rattle.subsumption.specs.Tables.{Tables, or, count_of, tree}
use Rattle.subsumption.specs.Subsumption.{Interpretation, Member, assigned}
use Rattle.subsumption.specs.Refusal.{Reply, Replies, or_else, refuse_if, first_at, Outcome}
use Rattle.subsumption.specs.Check.{table_fault, assignment_fault}
use Rattle.countermodel.specs.Rows.{rows_of, at, interpretation_of}

-- Check 1 of the interpretation: no elements, over 192, or ragged rows.
unfoldable pub size_fault : ℕ → List ℕ → Outcome
size_fault size rows = refuse_if (or (eqb size 0) (or (ltb 192 size) (not (eqb (length rows % 4) 0)))) (Limit 0)

-- Check 2: a row of another form, or with an element that there is not. Names and roles are any numbers.
unfoldable pub bad_row : ℕ → ℕ → ℕ → ℕ → Bool
bad_row size zero x last = or (not (ltb x size)) (not (eqb last 0))
bad_row size (suc zero) x last = or (not (ltb x size)) (not (ltb last size))
bad_row size (suc (suc kind)) x last = true

unfoldable pub rows_fault : ℕ → List ℕ → Outcome
rows_fault size rows = first_at Malformed (λ p. bad_row size (at rows p 0) (at rows p 1) (at rows p 3)) 0 (rows_of rows)

-- Check 4: the asked concept is none (place 0), or the element is not there (place 1).
unfoldable pub element_fault : ℕ → ℕ → ℕ → ℕ → Outcome
element_fault count size concept element =
    or_else (refuse_if (not (ltb concept count)) (NoConcept 0)) (refuse_if (not (ltb element size)) (NoConcept 1))

-- The checks of the tables and the assignment, and then these.
unfoldable pub membership_fault : Tables → List ℕ → ℕ → List ℕ → ℕ → ℕ → Outcome
membership_fault t assignment size rows concept element =
    or_else (table_fault t)
    (or_else (assignment_fault t assignment)
    (or_else (size_fault size rows) (or_else (rows_fault size rows) (element_fault (count_of t.concepts) size concept element))))

-- The element is a member. Roles are read from the rows only: role pairs are not looked at.
abbrev pub IsMember : Tables → List ℕ → Interpretation → ℕ → ℕ → Type 0
IsMember t assignment I concept element = Member I (assigned t assignment I) (tree t.concepts concept) element

-- A value tells whether it is.
abbrev pub TellsMember : Tables → List ℕ → Interpretation → ℕ → ℕ → ℕ → Type 0
TellsMember t assignment I concept element zero = IsMember t assignment I concept element → ⊥
TellsMember t assignment I concept element (suc zero) = IsMember t assignment I concept element
TellsMember t assignment I concept element (suc (suc value)) = ⊥

abbrev pub DecidesMember : Tables → List ℕ → ℕ → List ℕ → ℕ → ℕ → Reply → Type 0
DecidesMember t assignment size rows concept element reply =
    Replies (membership_fault t assignment size rows concept element)
    (TellsMember t assignment (interpretation_of size rows) concept element) reply
