-- The whole output as bytes (01, "House text and the program").
use Rattle.std.specs.Prelude.{ℕ, zero, suc, ◌+◌, ◌-◌, ◌*◌, ◌/◌, ◌%◌, List, [], ◌∷◌, ◌++◌, Bool, true, false, eqb, ltb, length, get_or}
use Rattle.subsumption.specs.declared.refusal.Code.{Code}
use Rattle.subsumption.specs.Tables.{count_of}
use Rattle.subsumption.specs.Atoms.{pick}
use Rattle.countermodel.specs.Rows.{rows_of}
use Rattle.countermodel.specs.Countermodel.{names_at, links_at, name_rows, link_rows, shown_rows}
use Rattle.numerals.specs.Digits.{digits}
use Rattle.numerals.specs.Printing.{number_text, pair_text, refused_text}
use Rattle.numerals.specs.Lines.{variables_key, lines_text}

-- the whole lines "answer=filled", "answer=none"
abbrev pub filled_line : List ℕ
filled_line = 97 ∷ 110 ∷ 115 ∷ 119 ∷ 101 ∷ 114 ∷ 61 ∷ 102 ∷ 105 ∷ 108 ∷ 108 ∷ 101 ∷ 100 ∷ 10 ∷ []

abbrev pub none_line : List ℕ
none_line = 97 ∷ 110 ∷ 115 ∷ 119 ∷ 101 ∷ 114 ∷ 61 ∷ 110 ∷ 111 ∷ 110 ∷ 101 ∷ 10 ∷ []

-- "fill="
abbrev pub fill_key : List ℕ
fill_key = 102 ∷ 105 ∷ 108 ∷ 108 ∷ 61 ∷ []

-- An id, after a comma unless it is the first.
unfoldable pub id_text : Bool → ℕ → List ℕ
id_text true id = 44 ∷ digits id
id_text false id = digits id

-- Ids with commas between them; `later` says that one went before.
unfoldable pub ids_text : Bool → List ℕ → List ℕ
ids_text later [] = []
ids_text later (id ∷ ids) = id_text later id ++ ids_text true ids

-- The line of one variable.
unfoldable pub fill_text : List ℕ → List ℕ
fill_text ids = fill_key ++ (ids_text false ids ++ (10 ∷ []))

-- A line for each choice: the atoms at whose place it has a one, rising.
unfoldable pub fills_text : List ℕ → List ℕ → List ℕ
fills_text atoms [] = []
fills_text atoms (choice ∷ choices) = fill_text (pick atoms choice) ++ fills_text atoms choices

unfoldable pub filled_text : List ℕ → List ℕ → List ℕ
filled_text atoms assignment = filled_line ++ (number_text variables_key (length assignment) ++ fills_text atoms assignment)

unfoldable pub pick_text : Bool → List ℕ → List ℕ → List ℕ
pick_text true a b = a
pick_text false a b = b

-- Refusal 10 is one line; any other is told by its number and place.
unfoldable pub code_text : Code → List ℕ
code_text code = pick_text (eqb code.number 10) none_line (refused_text code)

-- ---- an interpretation that is shown (02, A.5)

-- "things=", "is=", "link="
abbrev pub things_key : List ℕ
things_key = 116 ∷ 104 ∷ 105 ∷ 110 ∷ 103 ∷ 115 ∷ 61 ∷ []

abbrev pub is_key : List ℕ
is_key = 105 ∷ 115 ∷ 61 ∷ []

abbrev pub link_key : List ℕ
link_key = 108 ∷ 105 ∷ 110 ∷ 107 ∷ 61 ∷ []

-- The line of a link by the role s. Byte 44 is the comma.
unfoldable pub link_text : ℕ → ℕ → ℕ → List ℕ
link_text x s y = link_key ++ (digits x ++ pair_text (44 ∷ []) s y)

-- The line of a row, by its kind.
unfoldable pub line_of : ℕ → ℕ → ℕ → ℕ → List ℕ
line_of zero x n last = pair_text is_key x n
line_of (suc kind) x s y = link_text x s y

abbrev pub line_of_numbers : List ℕ → List ℕ
line_of_numbers numbers = line_of (get_or numbers 0 0) (get_or numbers 1 0) (get_or numbers 2 0) (get_or numbers 3 0)

unfoldable pub rows_text : List ℕ → List ℕ
rows_text rows = lines_text line_of_numbers 4 (rows_of rows) rows

-- How many elements there are, and a line for each row.
unfoldable pub shown_text : List ℕ → List ℕ → (ℕ → ℕ → Bool) → List ℕ
shown_text concepts roles marks = number_text things_key (count_of concepts) ++ rows_text (shown_rows concepts roles marks)

-- The same in so many parts: the first line, a part for the names of each element, and one for the links of each element by each role.
abbrev pub parts_of : List ℕ → ℕ
parts_of concepts = 1 + count_of concepts + count_of concepts * 100

-- The links of the element p / 100 by the role p % 100.
unfoldable pub links_part : List ℕ → List ℕ → (ℕ → ℕ → Bool) → ℕ → List ℕ
links_part concepts roles marks p = rows_text (link_rows (p / 100) (p % 100) (links_at concepts roles marks (p / 100) (p % 100)))

-- Part k. Together they are the whole: the law `shown-parts`.
unfoldable pub part_text : List ℕ → List ℕ → (ℕ → ℕ → Bool) → ℕ → List ℕ
part_text concepts roles marks zero = number_text things_key (count_of concepts)
part_text concepts roles marks (suc k) =
    pick_text (ltb k (count_of concepts)) (rows_text (name_rows k (names_at concepts marks k)))
    (links_part concepts roles marks (k - count_of concepts))
