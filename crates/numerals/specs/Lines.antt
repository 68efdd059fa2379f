-- Lines of the house text (01, "House text and the program"): what each is.
use Rattle.std.specs.Prelude.{ℕ, zero, suc, List, [], ◌∷◌, ◌++◌, get_or, take, drop}
use Rattle.numerals.specs.Printing.{number_text, pair_text}

-- ---- the bytes in front of a line's numbers

-- "blanks=", "roles=", "wider=", "entries=", "inclusions=", "questions=", "below=", "show="
abbrev pub variables_key : List ℕ
variables_key = 98 ∷ 108 ∷ 97 ∷ 110 ∷ 107 ∷ 115 ∷ 61 ∷ []

abbrev pub roles_key : List ℕ
roles_key = 114 ∷ 111 ∷ 108 ∷ 101 ∷ 115 ∷ 61 ∷ []

abbrev pub wider_key : List ℕ
wider_key = 119 ∷ 105 ∷ 100 ∷ 101 ∷ 114 ∷ 61 ∷ []

abbrev pub concepts_key : List ℕ
concepts_key = 101 ∷ 110 ∷ 116 ∷ 114 ∷ 105 ∷ 101 ∷ 115 ∷ 61 ∷ []

abbrev pub inclusions_key : List ℕ
inclusions_key = 105 ∷ 110 ∷ 99 ∷ 108 ∷ 117 ∷ 115 ∷ 105 ∷ 111 ∷ 110 ∷ 115 ∷ 61 ∷ []

abbrev pub questions_key : List ℕ
questions_key = 113 ∷ 117 ∷ 101 ∷ 115 ∷ 116 ∷ 105 ∷ 111 ∷ 110 ∷ 115 ∷ 61 ∷ []

abbrev pub below_key : List ℕ
below_key = 98 ∷ 101 ∷ 108 ∷ 111 ∷ 119 ∷ 61 ∷ []

abbrev pub show_key : List ℕ
show_key = 115 ∷ 104 ∷ 111 ∷ 119 ∷ 61 ∷ []

-- the whole line "top=0"
abbrev pub top_text : List ℕ
top_text = 116 ∷ 111 ∷ 112 ∷ 61 ∷ 48 ∷ 10 ∷ []

-- "name=", "some=", "and=", "blank="
abbrev pub name_key : List ℕ
name_key = 110 ∷ 97 ∷ 109 ∷ 101 ∷ 61 ∷ []

abbrev pub some_key : List ℕ
some_key = 115 ∷ 111 ∷ 109 ∷ 101 ∷ 61 ∷ []

abbrev pub and_key : List ℕ
and_key = 97 ∷ 110 ∷ 100 ∷ 61 ∷ []

abbrev pub variable_key : List ℕ
variable_key = 98 ∷ 108 ∷ 97 ∷ 110 ∷ 107 ∷ 61 ∷ []

-- ---- what a right line is. Byte 10 ends it, byte 44 is the comma

-- The line of a row of the concept table. There is none for another kind.
unfoldable pub row_text : ℕ → ℕ → ℕ → List ℕ
row_text zero a b = top_text
row_text (suc zero) a b = number_text name_key a
row_text (suc (suc zero)) a b = pair_text some_key a b
row_text (suc (suc (suc zero))) a b = pair_text and_key a b
row_text (suc (suc (suc (suc zero)))) a b = number_text variable_key a
row_text (suc (suc (suc (suc (suc kind))))) a b = []

-- So many lines, each of the next `width` numbers.
unfoldable pub lines_text : (List ℕ → List ℕ) → ℕ → ℕ → List ℕ → List ℕ
lines_text text width zero numbers = []
lines_text text width (suc count) numbers = text (take width numbers) ++ lines_text text width count (drop width numbers)

abbrev pub row_of_numbers : List ℕ → List ℕ
row_of_numbers numbers = row_text (get_or numbers 0 0) (get_or numbers 1 0) (get_or numbers 2 0)

abbrev pub pair_of_numbers : List ℕ → List ℕ → List ℕ
pair_of_numbers key numbers = pair_text key (get_or numbers 0 0) (get_or numbers 1 0)
