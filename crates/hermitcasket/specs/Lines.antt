-- Lines of the house text (01, "House text and the program"): how one is read from the front of the remaining text. The value and
-- the length used are told; what a right line is stands in numerals.
use Rattle.std.specs.Prelude.{ℕ, suc, ◌+◌, ◌-◌, ◌*◌, List, [], ◌∷◌, Bool, true, false, eqb, length, drop, Option, Some, None}
use Rattle.numerals.specs.Bytes.{starts}
use Rattle.numerals.specs.Reading.{wrong_digit}
use Rattle.numerals.specs.Lines.{top_text, name_key, some_key, and_key, variable_key}
use Rattle.hermitcasket.specs.declared.lines.Number.{Number}
use Rattle.hermitcasket.specs.declared.lines.PairLine.{PairLine}
use Rattle.hermitcasket.specs.declared.lines.RowLine.{RowLine}

-- What is found, and the length used.
abbrev pub a_number : ℕ → ℕ → Option Number
a_number value n = Some (record { value = value; length = n })

abbrev pub a_pair : ℕ → ℕ → ℕ → Option PairLine
a_pair a b n = Some (record { a = a; b = b; length = n })

abbrev pub a_row : ℕ → ℕ → ℕ → ℕ → Option RowLine
a_row kind a b n = Some (record { kind = kind; a = a; b = b; length = n })

unfoldable pub pick_number : Bool → Option Number → Option Number → Option Number
pick_number true a b = a
pick_number false a b = b

-- A number up to the byte `stop`, of which `count` digits are read and give `value`.
unfoldable pub number_from : ℕ → ℕ → ℕ → List ℕ → Option Number
number_from stop value count [] = None
number_from stop value count (b ∷ rest) =
    pick_number (eqb b stop) (pick_number (eqb count 0) None (a_number value (suc count)))
    (pick_number (wrong_digit value count b) None (number_from stop (value * 10 + (b - 48)) (suc count) rest))

abbrev pub number : ℕ → List ℕ → Option Number
number stop rest = number_from stop 0 0 rest

unfoldable pub behind : ℕ → Option Number → Option Number
behind k None = None
behind k (Some found) = a_number found.value (k + found.length)

-- A line of one number.
unfoldable pub number_line : List ℕ → List ℕ → Option Number
number_line key rest = pick_number (starts key rest) (behind (length key) (number 10 (drop (length key) rest))) None

unfoldable pub second_of : ℕ → ℕ → Option Number → Option PairLine
second_of a k None = None
second_of a k (Some found) = a_pair a found.value (k + found.length)

unfoldable pub first_of : ℕ → List ℕ → Option Number → Option PairLine
first_of k rest None = None
first_of k rest (Some found) = second_of found.value (k + found.length) (number 10 (drop (k + found.length) rest))

unfoldable pub pair_if : Bool → Option PairLine → Option PairLine
pair_if true line = line
pair_if false line = None

-- A line of two numbers.
unfoldable pub pair_line : List ℕ → List ℕ → Option PairLine
pair_line key rest = pair_if (starts key rest) (first_of (length key) rest (number 44 (drop (length key) rest)))

unfoldable pub top_row : Bool → Option RowLine
top_row true = a_row 0 0 0 6
top_row false = None

unfoldable pub one_row : ℕ → Option Number → Option RowLine
one_row kind None = None
one_row kind (Some found) = a_row kind found.value 0 found.length

unfoldable pub two_row : ℕ → Option PairLine → Option RowLine
two_row kind None = None
two_row kind (Some line) = a_row kind line.a line.b line.length

unfoldable pub or_row : Option RowLine → Option RowLine → Option RowLine
or_row None other = other
or_row (Some line) other = Some line

-- A line of the concept table.
unfoldable pub row_line : List ℕ → Option RowLine
row_line rest =
    or_row (top_row (starts top_text rest))
    (or_row (one_row 1 (number_line name_key rest))
    (or_row (two_row 2 (pair_line some_key rest))
    (or_row (two_row 3 (pair_line and_key rest))
    (one_row 4 (number_line variable_key rest)))))
