-- The card of a catalogue in house text (01, "House text and the program"): no blanks, no section of the roles, the catalogue's entries and
-- inclusions, no questions.
use Rattle.std.specs.Prelude.{ℕ, ◌≡◌, List, ◌++◌}
use Rattle.subsumption.specs.Tables.{count_of, pairs_of}
use Rattle.subsumption.specs.Refusal.{code_of}
use Rattle.numerals.specs.Printing.{number_text, refused_text}
use Rattle.numerals.specs.Lines.{variables_key, concepts_key, inclusions_key, questions_key, below_key, lines_text, row_of_numbers, pair_of_numbers}
use Rattle.owl.specs.Judgement.{Step, go, stop}
use Rattle.owl.specs.Read.{catalogue_fault, reading_of}

-- A line for each row, and for each inclusion.
abbrev pub rows_text : List ℕ → List ℕ
rows_text concepts = lines_text row_of_numbers 3 (count_of concepts) concepts

abbrev pub pairs_text : List ℕ → List ℕ
pairs_text inclusions = lines_text (pair_of_numbers below_key) 2 (pairs_of inclusions) inclusions

-- The same behind their count.
unfoldable pub entries_text : List ℕ → List ℕ
entries_text concepts = number_text concepts_key (count_of concepts) ++ rows_text concepts

unfoldable pub inclusions_text : List ℕ → List ℕ
inclusions_text inclusions = number_text inclusions_key (pairs_of inclusions) ++ pairs_text inclusions

unfoldable pub card_text : List ℕ → List ℕ → List ℕ
card_text concepts inclusions =
    number_text variables_key 0 ++ (entries_text concepts ++ (inclusions_text inclusions ++ number_text questions_key 0))

-- A text: the card of its tables, or its refusal. The program's buffers have 576 and 192 numbers.
abbrev pub CardedBy : Step → List ℕ → Type 0
CardedBy (go s) output = output ≡ card_text s.rows s.inclusions
CardedBy (stop r) output = output ≡ refused_text (code_of r)

abbrev pub Carded : List ℕ → List ℕ → Type 0
Carded text output = CardedBy (reading_of (catalogue_fault text 576 192) text) output
